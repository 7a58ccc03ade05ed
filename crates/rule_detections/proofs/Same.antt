-- Texts and values that are the same.
use Rattle.std.proofs.Common.{ℕ, ◌≡◌, Bool, List, sym, ◌∙◌, subst}
use Rattle.std.specs.Prelude.{◌↔◌, IsTrue}
use Rattle.std.specs.Str.{bytes_eq}
use Rattle.std.proofs.lemmas.Slice.Eq.{bytes_eq-Decides}
use Rattle.event_schema.specs.Lists.{SomeOf}
use Rattle.event_schema.specs.declared.value.Value.{Value}
use Rattle.rule_detections.specs.Holds.{AreSame}

-- the test of two texts tells whether they are one
pub of_test : (r : Bool) (a b : List ℕ) → r ≡ bytes_eq a b → IsTrue r ↔ (a ≡ b)
of_test r a b is = let same = bytes_eq-Decides a b in ((λ h. same.0 (sym is ∙ h)), (λ h. is ∙ same.1 h))

-- what is tested of some values is tested of those that they are
pub of_values : (r : Bool) (values others vs os : List Value) → values ≡ vs → others ≡ os
    → IsTrue r ↔ SomeOf (λ value. SomeOf (AreSame value) others) values → IsTrue r ↔ SomeOf (λ value. SomeOf (AreSame value) os) vs
of_values r values others vs os first second h =
    subst (λ (xs : List Value). IsTrue r ↔ SomeOf (λ value. SomeOf (AreSame value) os) xs) first
    (subst (λ (ys : List Value). IsTrue r ↔ SomeOf (λ value. SomeOf (AreSame value) ys) values) second h)
