use Rattle.std.proofs.Common.{◌∙◌, ap, sym}
use Rattle.std.specs.Prelude.{encode_utf8_all}
use Rattle.std.specs.Str.{chars}
use Rattle.std.proofs.lemmas.Map.Text.{btree_map_updates_text}
use Rattle.std.proofs.lemmas.Str.{encodes-chars, scalars-chars}
use Rattle.sig_conditions.specs.Named.{Named}
use Rattle.sig_conditions.specs.Taken.{taken}
use Rattle.sig_conditions.proofs.Knowing.{keeps}
use Rattle.sig_conditions.proofs.names.Names.keep.Goals as goal

pub invariant_of-self-2 : goal.invariant_of-self-2
invariant_of-self-2 c =
    let bytes = c.selector_word.result.now in
    record {
      words = record {
        takes = λ word s.
            keeps c.self.inside.index c.args.selector.now (chars bytes) word _ c.in_ok-copy.copy _ _ (scalars-chars bytes c.selector_word.utf8) s c.selector_word.ensures
            (c.in_ok-word.ensures.ok ∙ sym (encodes-chars bytes c.selector_word.utf8))
            (c.in_ok-copy.ensures ∙ (c.requires ∙ ap (λ (v : Named). taken c.args.selector.now v.names) (sym c.self.view_is)))
            (btree_map_updates_text _ c.self.inside.known c.insert.new.self _ c.in_ok-insert.ensures.updates (encode_utf8_all word))
            (c.self.invariant.words.takes word s);
      };
      sizes = c.self.invariant.sizes;
    }
