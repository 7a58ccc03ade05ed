-- The longest front of a list that passes a test.
use Rattle.std.proofs.Common.{◌≡◌, suc, ◌+◌, ◌<◌, Bool, true, false, not, cond, List, ◌∷◌, length, take, refl, ap, ◌∙◌, arith}
use Rattle.std.specs.List.{prefix_len}
use Rattle.std.proofs.lemmas.List.{get_or-take}
use Rattle.std.proofs.lemmas.List.Folds.{length-prefix_len}
use Rattle.std.proofs.lemmas.List.Sums.{prefix_len_is, prefix_len_passes}

-- where all passes, the first does, and so does all behind it
pub first_passes : {X : Type 0} (p : X → Bool) (x : X) (xs : List X) → prefix_len p (x ∷ xs) ≡ length (x ∷ xs) → (p x ≡ true) × (prefix_len p xs ≡ length xs)
first_passes p x xs e = by (p x) e
  where
    by : (b : Bool) → cond b (1 + prefix_len p xs) 0 ≡ suc (length xs) → (b ≡ true) × (prefix_len p xs ≡ length xs)
    by true e = (refl, omega arith)
    by false e = absurd (omega arith)

-- what passes at the front passes throughout
pub front_passes : {X : Type 0} (p : X → Bool) (xs : List X) (d : X) → prefix_len p (take (prefix_len p xs) xs) ≡ length (take (prefix_len p xs) xs)
front_passes p xs d =
    let n = length-prefix_len p xs in
    prefix_len_is p (take (prefix_len p xs) xs) (length (take (prefix_len p xs) xs)) d (omega arith)
    (λ k h. let below : k < prefix_len p xs = omega arith in ap p (get_or-take (prefix_len p xs) xs k d below) ∙ prefix_len_passes p xs k d below)
    (λ h. absurd (omega arith))

pub was_false : (b : Bool) → not b ≡ true → b ≡ false
was_false true e = cc
was_false false e = refl

pub was_true : (b : Bool) → not b ≡ false → b ≡ true
was_true true e = refl
was_true false e = cc
