use Rattle.std.proofs.Common.{◌≡◌, ℕ, List, IfOk, Vec, Result, Ok, Err, ◌∙◌}
use Rattle.std.specs.Vec.{vec_items}
use Rattle.std.specs.Str.{chars}
use Rattle.std.proofs.lemmas.Iterator.{YieldsList-from_chars, items_from_collect}
use Rattle.yaml_blocks.proofs.scalar_or_flow.characters.Goals as goal

collected : {Z E : Type 0} (bytes cs : List ℕ) (r : Result (Vec ℕ Z) E) → chars bytes ≡ cs → IfOk r (λ v. vec_items v ≡ chars bytes) → IfOk r (λ v. v.items ≡ cs)
collected bytes cs (Ok v) same e = e ∙ same
collected bytes cs (Err x) same e = tt

pub returns : goal.returns
returns c =
    collected c.as_str.result.now c.args.content.now c.collect.result c.as_str.ensures.chars
    (items_from_collect _ c.collect.ensures.ran (YieldsList-from_chars c.as_str.result.now c.as_str.utf8 c.chars.ensures.rest))
