-- What is set for each rule, one by one, and that there is one way to set it.
use Rattle.std.proofs.Common.{◌≡◌, ◌↔◌, ℕ, zero, suc, ◌+◌, ◌<◌, ◌≤◌, Bool, true, false, IsTrue, List, [], ◌∷◌, ◌++◌, length, get_or, take, refl, sym, ap, ◌∙◌, subst, arith, add-one, inl, inr}
use Rattle.std.proofs.Math.ListN.{set}
use Rattle.std.proofs.Math.Seq.{take-append_seam}
use Rattle.std.specs.List.{AllZip}
use Rattle.std.specs.Prelude.{◌⊎◌, map}

not_true : false ≡ true → ⊥
not_true same = cc

module _ {A B : Type 0} (J : A → B → Type 0) (R : A → Bool → Type 0) (y new : B) (hit : Bool) (each : (x : A) → J x y → J x new × R x hit) where
  set_here : (xs : List A) (ys : List B) (hits : List Bool) (i : ℕ) → AllZip J xs ys → length hits ≡ length ys → i < length ys → y ≡ get_or ys i y
      → AllZip R (take i xs) (take i hits) → AllZip J xs (set ys i new) × AllZip R (take (suc i) xs) (take (suc i) (set hits i hit))
  set_here [] [] hits i all many within is before = absurd (omega (arith, within))
  set_here [] (z ∷ ys) hits i all many within is before = absurd all
  set_here (x ∷ xs) [] hits i all many within is before = absurd all
  set_here (x ∷ xs) (z ∷ ys) [] i all many within is before = absurd (omega (arith, many))
  set_here (x ∷ xs) (z ∷ ys) (h ∷ hits) zero all many within is before =
      let one = each x (subst (λ (w : B). J x w) (sym is) all.0) in
      ((one.0, all.1), (one.1, tt))
  set_here (x ∷ xs) (z ∷ ys) (h ∷ hits) (suc i) all many within is before =
      let more = set_here xs ys hits i all.1 (omega (arith, many)) (omega (arith, within)) is before.1 in
      ((all.0, more.0), (before.0, more.1))

  -- a turn of the loop
  pub set_next : (xs : List A) (ys : List B) (hits : List Bool) (i : ℕ) → AllZip J xs ys → length hits ≡ length ys → i < length ys → y ≡ get_or ys i y
      → AllZip R (take i xs) (take i hits) → AllZip J xs (set ys i new) × AllZip R (take (i + 1) xs) (take (i + 1) (set hits i hit))
  set_next xs ys hits i all many within is before =
      subst (λ (k : ℕ). AllZip J xs (set ys i new) × AllZip R (take k xs) (take k (set hits i hit))) (sym (add-one i)) (set_here xs ys hits i all many within is before)

module _ {A B C : Type 0} (K : A → B → Type 0) (J : A → C → Type 0) (y : B) (new : C) (each : (x : A) → K x y → J x new) where
  push_here : (xs : List A) (ys : List B) (zs : List C) (i : ℕ) → AllZip K xs ys → i < length ys → y ≡ get_or ys i y → AllZip J (take i xs) zs
      → AllZip J (take (suc i) xs) (zs ++ new ∷ [])
  push_here [] [] zs i all within is before = absurd (omega (arith, within))
  push_here [] (z ∷ ys) zs i all within is before = absurd all
  push_here (x ∷ xs) [] zs i all within is before = absurd all
  push_here (x ∷ xs) (z ∷ ys) [] zero all within is before = (each x (subst (λ (w : B). K x w) (sym is) all.0), tt)
  push_here (x ∷ xs) (z ∷ ys) (n ∷ zs) zero all within is before = absurd before
  push_here (x ∷ xs) (z ∷ ys) [] (suc i) all within is before = absurd before
  push_here (x ∷ xs) (z ∷ ys) (n ∷ zs) (suc i) all within is before = (before.0, push_here xs ys zs i all.1 (omega (arith, within)) is before.1)

  -- a turn of the loop that makes one behind the other
  pub push_next : (xs : List A) (ys : List B) (zs : List C) (i : ℕ) → AllZip K xs ys → i < length ys → y ≡ get_or ys i y → AllZip J (take i xs) zs
      → AllZip J (take (i + 1) xs) (zs ++ new ∷ [])
  push_next xs ys zs i all within is before = subst (λ (k : ℕ). AllZip J (take k xs) (zs ++ new ∷ [])) (sym (add-one i)) (push_here xs ys zs i all within is before)

-- all of them at the end
pub take_all : {A B : Type 0} (K : A → B → Type 0) (xs : List A) (ys : List B) (i : ℕ) → AllZip K xs ys → length ys ≤ i → take i xs ≡ xs
take_all K [] ys zero all end = refl
take_all K [] ys (suc i) all end = refl
take_all K (x ∷ xs) [] i all end = absurd all
take_all K (x ∷ xs) (y ∷ ys) zero all end = absurd (omega (arith, end))
take_all K (x ∷ xs) (y ∷ ys) (suc i) all end = ap (λ l. x ∷ l) (take_all K xs ys i all.1 (omega (arith, end)))

-- setting changes no length
pub set_long : {A : Type 0} (xs : List A) (i : ℕ) (new : A) → length (set xs i new) ≡ length xs
set_long [] i new = refl
set_long (x ∷ xs) zero new = refl
set_long (x ∷ xs) (suc i) new = ap suc (set_long xs i new)

pub set_many : {A B : Type 0} (xs : List A) (ys : List B) (i : ℕ) (x : A) (y : B) → length xs ≡ length ys → length (set xs i x) ≡ length (set ys i y)
set_many xs ys i x y many = set_long xs i x ∙ (many ∙ sym (set_long ys i y))

-- what is written over all of a list is what it is then
pub written_over : {A : Type 0} (n : ℕ) (new rest : List A) → length new ≡ n → take n (new ++ rest) ≡ new
written_over n new rest long = ap (λ (k : ℕ). take k (new ++ rest)) (sym long) ∙ take-append_seam new rest

-- all are set at the end
pub hits_all : {A B C : Type 0} (J : A → B → Type 0) (R : A → C → Type 0) (xs : List A) (ys : List B) (hits : List C) (i : ℕ) → AllZip J xs ys → length hits ≡ length ys → length ys ≤ i
    → AllZip R (take i xs) (take i hits) → AllZip R xs hits
hits_all J R [] [] [] zero all many end are = tt
hits_all J R [] [] [] (suc i) all many end are = tt
hits_all J R [] [] (h ∷ hits) i all many end are = absurd (omega (arith, many))
hits_all J R [] (y ∷ ys) hits i all many end are = absurd all
hits_all J R (x ∷ xs) [] hits i all many end are = absurd all
hits_all J R (x ∷ xs) (y ∷ ys) [] i all many end are = absurd (omega (arith, many))
hits_all J R (x ∷ xs) (y ∷ ys) (h ∷ hits) zero all many end are = absurd (omega (arith, end))
hits_all J R (x ∷ xs) (y ∷ ys) (h ∷ hits) (suc i) all many end are = (are.0, hits_all J R xs ys hits i all.1 (omega (arith, many)) (omega (arith, end)) are.1)

module _ {A : Type 0} (P : A → Type 0) where
  abbrev pub Says : A → Bool → Type 0
  Says x hit = IsTrue hit ↔ P x

  -- for each thing whether P holds of it
  pub says_each : ((x : A) → P x ⊎ (P x → ⊥)) → (xs : List A) → (hits : List Bool) × AllZip Says xs hits
  says_each decided [] = ([], tt)
  says_each decided (x ∷ xs) = by (decided x) (says_each decided xs)
    where
      by : P x ⊎ (P x → ⊥) → (hits : List Bool) × AllZip Says xs hits → (hits : List Bool) × AllZip Says (x ∷ xs) hits
      by (inl is) (hits, all) = (true ∷ hits, (((λ told. is), (λ holds. refl)), all))
      by (inr not) (hits, all) = (false ∷ hits, (((λ told. absurd (not_true told)), (λ holds. absurd (not holds))), all))

  one_says : (x : A) (a b : Bool) → Says x a → Says x b → a ≡ b
  one_says x true true first second = refl
  one_says x true false first second = absurd (not_true (second.1 (first.0 refl)))
  one_says x false true first second = absurd (not_true (first.1 (second.0 refl)))
  one_says x false false first second = refl

  pub says_one : (xs : List A) (hits others : List Bool) → AllZip Says xs hits → AllZip Says xs others → hits ≡ others
  says_one [] [] [] first second = refl
  says_one [] [] (b ∷ others) first second = absurd second
  says_one [] (a ∷ hits) bs first second = absurd first
  says_one (x ∷ xs) [] bs first second = absurd first
  says_one (x ∷ xs) (a ∷ hits) [] first second = absurd second
  says_one (x ∷ xs) (a ∷ hits) (b ∷ others) first second =
      ap (λ (h : Bool). h ∷ hits) (one_says x a b first.0 second.0) ∙ ap (λ (l : List Bool). b ∷ l) (says_one xs hits others first.1 second.1)

-- of things that are mapped
pub zip_mapped : {A B C : Type 0} (f : A → B) (R : B → C → Type 0) (xs : List A) (ys : List C) → AllZip (λ x y. R (f x) y) xs ys → AllZip R (map f xs) ys
zip_mapped f R [] [] all = tt
zip_mapped f R [] (y ∷ ys) all = absurd all
zip_mapped f R (x ∷ xs) [] all = absurd all
zip_mapped f R (x ∷ xs) (y ∷ ys) all = (all.0, zip_mapped f R xs ys all.1)
