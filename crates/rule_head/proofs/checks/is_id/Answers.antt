use Rattle.std.proofs.Common.{◌≡◌, List, ℕ, refl, ap, ◌∙◌}
use Rattle.std.specs.Prelude.{◌↔◌, Option, Some, None, Result, Ok, Err, IsOk, is_ok, is_some}
use Rattle.uuid.specs.Text.{parsed}
use Rattle.rule_head.proofs.checks.is_id.Goals as goal

-- a call that answers exactly where there is a value
answers : {X E A : Type 0} (r : Result X E) (o : Option A) → IsOk r ↔ ((a : A) × (o ≡ Some a)) → is_ok r ≡ is_some o
answers (Ok x) None h = let some = h.0 refl in absurd (cc some.1)
answers (Ok x) (Some a) h = refl
answers (Err e) None h = refl
answers (Err e) (Some a) h = let ok = h.1 (a, refl) in absurd (cc ok)

pub returns : goal.returns
returns c =
    c.is_ok.ensures.value ∙ (answers c.parse_str.result (parsed c.as_str.result.now) c.parse_str.ensures.ok
    ∙ ap (λ (bytes : List ℕ). is_some (parsed bytes)) c.as_str.ensures.bytes)
