-- Lists that are gone through in place.
use Rattle.std.proofs.Common.{◌≡◌, ℕ, zero, suc, ◌+◌, ◌<◌, ◌≤◌, List, [], ◌∷◌, ◌++◌, refl, ap, sym, subst, arith, length}
use Rattle.std.proofs.Math.ListN.{set}
use Rattle.std.specs.Prelude.{get_or, ⊤}
use Rattle.std.specs.List.{AllByRecursion}
use Rattle.correlation_engine.specs.Steps.{Each}

-- this holds of the first n elements, and the others are the same
abbrev pub FirstTo : {A : Type 0} → (A → A → Type 0) → ℕ → List A → List A → Type 0
FirstTo R n [] [] = ⊤
FirstTo R n [] (y ∷ ys) = ⊥
FirstTo R n (x ∷ xs) [] = ⊥
FirstTo R zero (x ∷ xs) (y ∷ ys) = (y ≡ x) × FirstTo R zero xs ys
FirstTo R (suc n) (x ∷ xs) (y ∷ ys) = R x y × FirstTo R n xs ys

module _ {A : Type 0} (R : A → A → Type 0) where
  pub first_none : (xs : List A) → FirstTo R 0 xs xs
  first_none [] = tt
  first_none (x ∷ xs) = (refl, first_none xs)

  pub same_at : (n : ℕ) (xs ys : List A) (d : A) → FirstTo R n xs ys → get_or ys n d ≡ get_or xs n d
  same_at n [] (y ∷ ys) d so = absurd so
  same_at n (x ∷ xs) [] d so = absurd so
  same_at zero [] [] d so = refl
  same_at (suc n) [] [] d so = refl
  same_at zero (x ∷ xs) (y ∷ ys) d so = so.0
  same_at (suc n) (x ∷ xs) (y ∷ ys) d so = same_at n xs ys d so.1

  pub same_length : (n : ℕ) (xs ys : List A) → FirstTo R n xs ys → length ys ≡ length xs
  same_length n [] (y ∷ ys) so = absurd so
  same_length n (x ∷ xs) [] so = absurd so
  same_length zero [] [] so = refl
  same_length (suc n) [] [] so = refl
  same_length zero (x ∷ xs) (y ∷ ys) so = ap suc (same_length zero xs ys so.1)
  same_length (suc n) (x ∷ xs) (y ∷ ys) so = ap suc (same_length n xs ys so.1)

  first_suc : (n : ℕ) (xs ys : List A) (d y : A) → FirstTo R n xs ys → n < length xs → R (get_or ys n d) y → FirstTo R (suc n) xs (set ys n y)
  first_suc n [] ys d y so lt r = absurd (omega (arith, lt))
  first_suc n (x ∷ xs) [] d y so lt r = absurd so
  first_suc zero (x ∷ xs) (z ∷ ys) d y so lt r = (subst (λ (w : A). R w y) so.0 r, so.1)
  first_suc (suc n) (x ∷ xs) (z ∷ ys) d y so lt r = (so.0, first_suc n xs ys d y so.1 (omega (arith, lt)) r)

  pub first_more : (n : ℕ) (xs ys : List A) (d y : A) → FirstTo R n xs ys → n < length xs → R (get_or ys n d) y → FirstTo R (n + 1) xs (set ys n y)
  first_more n xs ys d y so lt r = let e : suc n ≡ n + 1 = omega arith in subst (λ (k : ℕ). FirstTo R k xs (set ys n y)) e (first_suc n xs ys d y so lt r)

  pub each_first : (n : ℕ) (xs ys : List A) → ((x : A) → R x x) → FirstTo R n xs ys → Each R xs ys
  each_first n [] (y ∷ ys) self so = absurd so
  each_first n (x ∷ xs) [] self so = absurd so
  each_first zero [] [] self so = tt
  each_first (suc n) [] [] self so = tt
  each_first zero (x ∷ xs) (y ∷ ys) self so = (subst (R x) (sym so.0) (self x), each_first zero xs ys self so.1)
  each_first (suc n) (x ∷ xs) (y ∷ ys) self so = (so.0, each_first n xs ys self so.1)

  pub each_all : (n : ℕ) (xs ys : List A) → length xs ≤ n → FirstTo R n xs ys → Each R xs ys
  each_all n [] (y ∷ ys) le so = absurd so
  each_all n (x ∷ xs) [] le so = absurd so
  each_all zero [] [] le so = tt
  each_all (suc n) [] [] le so = tt
  each_all zero (x ∷ xs) (y ∷ ys) le so = absurd (omega (arith, le))
  each_all (suc n) (x ∷ xs) (y ∷ ys) le so = (so.0, each_all n xs ys (omega (arith, le)) so.1)

module _ {A : Type 0} (P : A → Type 0) where
  pub all_at : (n : ℕ) (xs : List A) (d : A) → AllByRecursion P xs → n < length xs → P (get_or xs n d)
  all_at n [] d all lt = absurd (omega (arith, lt))
  all_at zero (x ∷ xs) d all lt = all.0
  all_at (suc n) (x ∷ xs) d all lt = all_at n xs d all.1 (omega (arith, lt))

  pub all_set : (n : ℕ) (xs : List A) (y : A) → AllByRecursion P xs → P y → AllByRecursion P (set xs n y)
  all_set n [] y all p = tt
  all_set zero (x ∷ xs) y all p = (p, all.1)
  all_set (suc n) (x ∷ xs) y all p = (all.0, all_set n xs y all.1 p)

  pub all_push : (xs : List A) (y : A) → AllByRecursion P xs → P y → AllByRecursion P (xs ++ y ∷ [])
  all_push [] y all p = (p, tt)
  all_push (x ∷ xs) y all p = (all.0, all_push xs y all.1 p)

pub longer : {A : Type 0} (xs : List A) (y : A) → length (xs ++ y ∷ []) ≡ length xs + 1
longer [] y = refl
longer (x ∷ xs) y = let e : length (xs ++ y ∷ []) ≡ length xs + 1 = longer xs y in omega (arith, e)
