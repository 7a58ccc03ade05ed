-- The truth of each detection, set one by one.
use Rattle.std.proofs.Common.{◌≡◌, ℕ, zero, suc, ◌+◌, ◌<◌, Bool, List, [], ◌∷◌, ◌++◌, length, get_or, take, sym, ap, ◌∙◌, subst, arith, add-one}
use Rattle.std.proofs.Math.ListN.{set}
use Rattle.std.proofs.Math.Seq.{take-append_seam}
use Rattle.std.specs.List.{AllZip}

module _ {A : Type 0} (R : Bool → A → Type 0) (b : Bool) where
  set_here : (truths : List Bool) (xs : List A) (i : ℕ) (x : A) → length truths ≡ length xs → i < length xs → x ≡ get_or xs i x → R b x
      → AllZip R (take i truths) (take i xs) → AllZip R (take (suc i) (set truths i b)) (take (suc i) xs)
  set_here [] [] i x long within is now before = absurd (omega arith)
  set_here [] (y ∷ xs) i x long within is now before = absurd (omega arith)
  set_here (t ∷ truths) [] i x long within is now before = absurd (omega arith)
  set_here (t ∷ truths) (y ∷ xs) zero x long within is now before = (subst (R b) is now, tt)
  set_here (t ∷ truths) (y ∷ xs) (suc i) x long within is now before =
      (before.0, set_here truths xs i x (omega arith) (omega arith) is now before.1)

  pub one_more : (truths : List Bool) (xs : List A) (i : ℕ) (x : A) → length truths ≡ length xs → i < length xs → x ≡ get_or xs i x → R b x
      → AllZip R (take i truths) (take i xs) → AllZip R (take (i + 1) (set truths i b)) (take (i + 1) xs)
  one_more truths xs i x long within is now before =
      subst (λ (k : ℕ). AllZip R (take k (set truths i b)) (take k xs)) (sym (add-one i)) (set_here truths xs i x long within is now before)

-- what is written over all of a list is what it is then
pub written_over : (n : ℕ) (new rest : List Bool) → length new ≡ n → take n (new ++ rest) ≡ new
written_over n new rest e = ap (λ (k : ℕ). take k (new ++ rest)) (sym e) ∙ take-append_seam new rest
