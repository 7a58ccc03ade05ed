-- Numbers by their digits from the left, and a bound that stands for all that is larger.
use Rattle.std.proofs.Common.{ℕ, ◌≡◌, ◌+◌, ◌*◌, ◌-◌, ◌≤◌, ◌<◌, List, [], ◌∷◌, length, drop, get_or, sym, ap, ◌∙◌, arith, ◌⊎◌, inl, inr}
use Rattle.std.specs.Prelude.{min}
use Rattle.std.proofs.lemmas.List.{drop_more}
use Rattle.sig_base.specs.Digits.{digits_from}

-- more digits make no smaller number
pub digits_from-le : (n : ℕ) (ds : List ℕ) → n ≤ digits_from n ds
digits_from-le n [] = omega arith
digits_from-le n (d ∷ ds) = let h = digits_from-le (10 * n + (d - 48)) ds in omega (arith, h)

less_or : (m n : ℕ) → (m ≤ n) ⊎ (n ≤ m)
less_or m n = grind arith

module _ (most : ℕ) where
  -- a number that is cut off at the bound goes on as the number itself, up to the bound
  pub capped : (n next : ℕ) (ds : List ℕ) → next ≡ min n most → min (digits_from next ds) most ≡ min (digits_from n ds) most
  capped n next ds is = by (less_or n most) where
    by : (n ≤ most) ⊎ (most ≤ n) → min (digits_from next ds) most ≡ min (digits_from n ds) most
    by (inl small) = ap (λ (m : ℕ). min (digits_from m ds) most) (omega (arith, is, small))
    by (inr large) =
        let g = digits_from-le n ds in
        let h = digits_from-le next ds in
        omega (arith, g, h, is, large)

  -- a turn of a loop over the digits
  pub capped_turn : (v next i z : ℕ) (ds : List ℕ) → i < length ds → next ≡ min (10 * v + (get_or ds i z - 48)) most
      → min (digits_from v (drop i ds)) most ≡ min (digits_from 0 ds) most → min (digits_from next (drop (i + 1) ds)) most ≡ min (digits_from 0 ds) most
  capped_turn v next i z ds h is so_far =
      capped (10 * v + (get_or ds i z - 48)) next (drop (i + 1) ds) is
      ∙ (sym (ap (λ (cs : List ℕ). min (digits_from v cs) most) (drop_more ds i z h)) ∙ so_far)
