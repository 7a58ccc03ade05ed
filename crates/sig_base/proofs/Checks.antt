-- The first refusal of a table, line by line.
use Rattle.std.proofs.Common.{ℕ, ◌≡◌, Bool, true, false, not, List, [], ◌∷◌, refl, ap, ◌∙◌, subst, sym}
use Rattle.std.specs.Prelude.{Option, Some, None, Result}
use Rattle.sig_base.specs.declared.refusal.Fault.{Fault}
use Rattle.sig_base.specs.declared.refusal.Place.{Place}
use Rattle.sig_base.specs.declared.refusal.Refusal.{Refusal}
use Rattle.sig_base.specs.Judged.{first, must, Judged}

-- a line that holds lets the next one judge
pub skips : (line : Option Refusal) (checks : List (Option Refusal)) → line ≡ None → first (line ∷ checks) ≡ first checks
skips line checks none = ap (λ o. first (o ∷ checks)) none

-- a line that refuses decides
pub stops : (line : Option Refusal) (checks : List (Option Refusal)) (r : Refusal) → line ≡ Some r → first (line ∷ checks) ≡ Some r
stops line checks r some = ap (λ o. first (o ∷ checks)) some

pub first_one : (line : Option Refusal) → first (line ∷ []) ≡ line
first_one None = refl
first_one (Some r) = refl

-- where nothing is refused, each line holds
pub first_holds : (line : Option Refusal) (checks : List (Option Refusal)) → first (line ∷ checks) ≡ None → (line ≡ None) × (first checks ≡ None)
first_holds None checks none = (refl, none)
first_holds (Some r) checks none = absurd cc

pub must_holds : (code : ℕ) (place : Place) (holds : Bool) → must code place holds ≡ None → holds ≡ true
must_holds code place true none = refl
must_holds code place false none = absurd cc

pub not_holds : (b : Bool) → not b ≡ true → b ≡ false
not_holds true h = absurd cc
not_holds false h = refl

-- the last line judges
pub judged_last : {X : Type 0} (IsRead : X → Type 0) (whole part : Option Refusal) (result : Result X Fault) → whole ≡ part → Judged IsRead part result → Judged IsRead whole result
judged_last IsRead whole part result same judged = subst (λ o. Judged IsRead o result) (sym same) judged

pub must_same : (code : ℕ) (p q : Place) (a b : Bool) → p ≡ q → a ≡ b → must code p a ≡ must code q b
must_same code p q a b places tests = ap (λ x. must code x a) places ∙ ap (λ x. must code q x) tests
