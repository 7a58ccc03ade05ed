use Rattle.std.proofs.Common.{◌≡◌, Bool, true, refl, sym, subst}
use Rattle.std.specs.Prelude.{◌↔◌}
use Rattle.backend_core.specs.Holds.{TreeHolds}
use Rattle.lucene_lang.specs.Query.{group_of}
use Rattle.lucene_layout.specs.Trees.{layout, tree_value}
use Rattle.lucene_writer.specs.Queries.{query_text}
use Rattle.lucene_writer.specs.Told.{lucene_tree}
use Rattle.lucene_writer.proofs.Means.{is_so, told_is, tree_sound}
use Rattle.lucene_writer.proofs.Terms.{number_scalars}
use Rattle.lucene_writer.proofs.laws.tree_is_query.Goals as goal

pub returns : goal.returns
returns c = λ limit schema t index sound free near.
    let fields = schema.fields in
    let written = lucene_tree fields t in
    let leaves = tree_sound fields (c.leaves_are_sound.ensures.term fields) (c.leaves_are_sound.ensures.everything fields) (c.leaves_are_read.ensures.term fields)
    (c.ranges_are_read.ensures.sound fields) (c.ranges_are_read.ensures.read fields) c.numbers_are_taken.ensures.value c.numbers_are_taken.ensures.number number_scalars index t sound free in
    let within = c.layout_is_read.ensures.within limit schema written leaves near in
    let scalars = c.layout_is_read.ensures.scalars fields written leaves in
    record {
      characters = query_text schema t;
      scalars = scalars;
      encoded = refl;
      query = group_of fields (layout written);
      reads = within;
      only = λ other reads.
          c.one_reading.ensures schema _ other (group_of fields (layout written)) reads
          (record { characters = query_text schema t; scalars = scalars; encoded = refl; reads = within.reads });
      selects = λ row event.
          subst (λ (b : Bool). (b ≡ true) ↔ TreeHolds row t) (sym (c.layout_selects.ensures fields row written))
          (is_so (tree_value fields row written) (TreeHolds row t)
          (told_is fields (c.leaves_are_sound.ensures.term fields) (c.leaves_are_sound.ensures.everything fields) (c.leaves_are_read.ensures.term fields)
          (c.ranges_are_read.ensures.sound fields) (c.ranges_are_read.ensures.read fields) c.numbers_are_taken.ensures.value c.numbers_are_taken.ensures.number number_scalars index row event
          (c.atoms_hold.ensures.value row) (c.atoms_hold.ensures.term row) (c.atoms_hold.ensures.range row) c.patterns_are_terms.ensures.pattern c.patterns_are_terms.ensures.number t sound free));
    }
