use Rattle.std.proofs.Common.{ℕ, List, ◌≡◌, refl, sym, ◌∙◌, true, false, subst}
use Rattle.std.specs.Str.{all_scalars}
use Rattle.std.proofs.lemmas.Str.{encodes_same}
use Rattle.sql_lang.specs.Grammar.{Query}
use Rattle.event_schema.specs.Rows.{first_values}
use Rattle.sql_layout.specs.Trees.{IsSound as IsSoundLeaf}
use Rattle.sql_layout.specs.HalvedTrees.{layout_query, fine_or}
use Rattle.backend_core.specs.FieldAt.{kind_at, name_at}
use Rattle.sqlite_writer.specs.Queries.{query_tree, query_text, query_bytes, query_expr}
use Rattle.sqlite_writer.proofs.Nested.{IsCalm}
use Rattle.sqlite_writer.proofs.Calm.{calm_never, calm_guarded}
use Rattle.sqlite_writer.proofs.Sounds.{named_sound, tree_each}
use Rattle.sqlite_writer.proofs.TreeLaws.{writable_layout, within}
use Rattle.sqlite_writer.proofs.laws.tree_is_query.Goals as goal

pub returns : goal.returns
returns c = λ limit schema t found sound none some deep.
    let fields = schema.fields in
    let leaves = c.leaves_are_sound.ensures in
    let sound_named = named_sound fields (leaves.value fields) (leaves.no_value fields) (leaves.text fields) (leaves.number fields) (leaves.texts fields) (leaves.wholes fields)
    (leaves.like fields) (leaves.glob fields)
    found.names found.found in
    let each_sound = tree_each fields (IsSoundLeaf fields) (leaves.never fields) sound_named false t sound in
    let each_calm = tree_each fields (IsCalm limit) (calm_never limit some (leaves.never fields).writable)
    (λ guarded k test in_range fit. calm_guarded limit some fields guarded (kind_at fields k) (name_at fields k) test (sound_named guarded k test in_range fit)) false t sound in
    let tree = query_tree schema t in
    let writable = writable_layout limit fields schema.table tree found.table each_calm in
    let scanned = c.spelling_is_scanned.ensures (layout_query schema.table tree) writable in
    let reads = c.halved_layout_is_read.ensures schema tree found.table each_sound in
    record {
      characters = query_text schema t;
      scalars = subst (λ (cs : List ℕ). all_scalars cs ≡ true) (encodes_same reads.characters (query_text schema t) (sym reads.encoded)) reads.scalars;
      encoded = refl;
      expr = query_expr schema t;
      reads = within limit schema tree each_calm deep scanned reads;
      only = λ other r. c.one_reading.ensures schema (query_bytes schema t) other (query_expr schema t) r reads;
      query = layout_query schema.table tree;
      spelled = sym scanned;
      fine = λ q is.
          let same : layout_query schema.table tree ≡ q = c.one_spelling.ensures (layout_query schema.table tree) q (sym scanned ∙ sym is) in
          subst (λ (p : Query). fine_or p.condition ≡ true) same (c.halved_layout_is_fine.ensures tree);
      selects = λ row event.
          let same = c.halved_layout_means_tree.ensures fields tree (first_values row) in
          let holds = c.polarity.ensures.even schema t row found sound none event in
          ((λ h. holds.0 (sym same ∙ h)), (λ h. same ∙ holds.1 h));
    }
