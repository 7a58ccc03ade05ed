-- Some element of a list, looked for from the left.
use Rattle.std.proofs.Common.{ℕ, zero, suc, ◌≡◌, ◌+◌, ◌<◌, ◌≤◌, inl, inr, List, [], ◌∷◌, length, drop, get_or, sym, subst, arith}
use Rattle.std.proofs.Math.ListN.{drop_of_length-le}
use Rattle.std.proofs.lemmas.List.{drop_more}
use Rattle.event_schema.specs.Lists.{SomeOf}

module _ {A : Type 0} (P : A → Type 0) where
  -- an element that is so is some element
  pub some_here : (xs : List A) (i : ℕ) (x : A) → i < length xs → x ≡ get_or xs i x → P x → SomeOf P xs
  some_here [] i x h is p = absurd (omega arith)
  some_here (y ∷ xs) zero x h is p = inl (subst P is p)
  some_here (y ∷ xs) (suc i) x h is p = inr (some_here xs i x (omega arith) is p)

  -- where an element isn't so, it is one of those behind it
  pub some_later : (xs : List A) (i : ℕ) (x : A) → i < length xs → x ≡ get_or xs i x → (P x → ⊥) → SomeOf P (drop i xs) → SomeOf P (drop (i + 1) xs)
  some_later xs i x h is not_so some = behind (get_or xs i x) (drop (i + 1) xs) (λ p. not_so (subst P (sym is) p)) (subst (SomeOf P) (drop_more xs i x h) some) where
    behind : (y : A) (ys : List A) → (P y → ⊥) → SomeOf P (y ∷ ys) → SomeOf P ys
    behind y ys no_y (inl p) = absurd (no_y p)
    behind y ys no_y (inr later) = later

  -- behind the last element there is none
  pub none_left : (xs : List A) (i : ℕ) → length xs ≤ i → SomeOf P (drop i xs) → ⊥
  none_left xs i h some = subst (SomeOf P) (drop_of_length-le xs h) some
