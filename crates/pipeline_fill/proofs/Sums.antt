-- Sums and greatest numbers over lists, counted up to a greatest number.
use Rattle.std.proofs.Common.{ℕ, ◌+◌, ◌<◌, max, ◌≡◌, Bool, true, false, length, get_or, drop, map, List, [], ◌∷◌, ◌++◌, refl, sym, ap, ◌∙◌}
use native.Mathlib.Omega.{arith}
use Rattle.std.specs.Prelude.{◌||◌}
use Rattle.std.specs.List.{list_any, flat_map}
use Rattle.std.proofs.lemmas.List.{drop_more, length-append}
use Rattle.pipeline_limits.specs.Sizes.{total}
use Rattle.pipeline_fill.specs.Counts.{capped}
use Rattle.pipeline_fill.specs.Entries.{largest}

left_at : {A : Type 0} (xs : List A) (i : ℕ) (x : A) → i < length xs → x ≡ get_or xs i x → drop i xs ≡ x ∷ drop (i + 1) xs
left_at {A = A} xs i x inside is = drop_more xs i x inside ∙ ap (λ (y : A). y ∷ drop (i + 1) xs) (sym is)

-- Each element of a list becomes one of a size.
module _ {A B : Type 0} (f : A → B) (size : B → ℕ) where
  pub sum_turn : (xs : List A) (i : ℕ) (x : A) (count n new : ℕ) → capped (count + total size (map f (drop i xs))) ≡ capped (total size (map f xs))
      → i < length xs → x ≡ get_or xs i x → n ≡ capped (size (f x)) → new ≡ capped (count + n)
      → capped (new + total size (map f (drop (i + 1) xs))) ≡ capped (total size (map f xs))
  sum_turn xs i x count n new same inside is here made =
      let all : total size (map f (drop i xs)) ≡ size (f x) + total size (map f (drop (i + 1) xs)) =
      ap (λ (ys : List A). total size (map f ys)) (left_at xs i x inside is) in
      omega (arith, same, here, made, all)

pub total_append : {A : Type 0} (size : A → ℕ) (xs ys : List A) → total size (xs ++ ys) ≡ total size xs + total size ys
total_append size [] ys = omega arith
total_append size (x ∷ xs) ys = let rest = total_append size xs ys in omega (arith, rest)

-- Each becomes several.
module _ {A B : Type 0} (f : A → List B) where
  pub flat_turn : (xs : List A) (i : ℕ) (x : A) (count n new : ℕ) → capped (count + length (flat_map f (drop i xs))) ≡ capped (length (flat_map f xs))
      → i < length xs → x ≡ get_or xs i x → n ≡ capped (length (f x)) → new ≡ capped (count + n)
      → capped (new + length (flat_map f (drop (i + 1) xs))) ≡ capped (length (flat_map f xs))
  flat_turn xs i x count n new same inside is here made =
      let all : length (flat_map f (drop i xs)) ≡ length (f x) + length (flat_map f (drop (i + 1) xs)) =
      ap (λ (ys : List A). length (flat_map f ys)) (left_at xs i x inside is) ∙ length-append (f x) (flat_map f (drop (i + 1) xs)) in
      omega (arith, same, here, made, all)

-- The sum of all that they become.
module _ {A B : Type 0} (f : A → List B) (size : B → ℕ) where
  pub flat_sum_turn : (xs : List A) (i : ℕ) (x : A) (count n new : ℕ) → capped (count + total size (flat_map f (drop i xs))) ≡ capped (total size (flat_map f xs))
      → i < length xs → x ≡ get_or xs i x → n ≡ capped (total size (f x)) → new ≡ capped (count + n)
      → capped (new + total size (flat_map f (drop (i + 1) xs))) ≡ capped (total size (flat_map f xs))
  flat_sum_turn xs i x count n new same inside is here made =
      let all : total size (flat_map f (drop i xs)) ≡ total size (f x) + total size (flat_map f (drop (i + 1) xs)) =
      ap (λ (ys : List A). total size (flat_map f ys)) (left_at xs i x inside is) ∙ total_append size (f x) (flat_map f (drop (i + 1) xs)) in
      omega (arith, same, here, made, all)

module _ {A : Type 0} (size : A → ℕ) where
  pub largest_turn : (xs : List A) (i : ℕ) (x : A) (found n new : ℕ) → capped (max found (largest size (drop i xs))) ≡ capped (largest size xs)
      → i < length xs → x ≡ get_or xs i x → n ≡ capped (size x) → new ≡ max found n
      → capped (max new (largest size (drop (i + 1) xs))) ≡ capped (largest size xs)
  largest_turn xs i x found n new same inside is here made =
      let all : largest size (drop i xs) ≡ max (size x) (largest size (drop (i + 1) xs)) = ap (λ (ys : List A). largest size ys) (left_at xs i x inside is) in
      omega (arith, same, here, made, all)

-- The largest of what the elements become.
module _ {A B : Type 0} (f : A → B) (size : B → ℕ) where
  pub most_turn : (xs : List A) (i : ℕ) (x : A) (found n new : ℕ) → capped (max found (largest size (map f (drop i xs)))) ≡ capped (largest size (map f xs))
      → i < length xs → x ≡ get_or xs i x → n ≡ capped (size (f x)) → new ≡ max found n
      → capped (max new (largest size (map f (drop (i + 1) xs)))) ≡ capped (largest size (map f xs))
  most_turn xs i x found n new same inside is here made =
      let all : largest size (map f (drop i xs)) ≡ max (size (f x)) (largest size (map f (drop (i + 1) xs))) =
      ap (λ (ys : List A). largest size (map f ys)) (left_at xs i x inside is) in
      omega (arith, same, here, made, all)

pub largest_append : {A : Type 0} (size : A → ℕ) (xs ys : List A) → largest size (xs ++ ys) ≡ max (largest size xs) (largest size ys)
largest_append size [] ys = omega arith
largest_append size (x ∷ xs) ys = let rest = largest_append size xs ys in omega (arith, rest)

-- Of all that they become, where each becomes several.
module _ {A B : Type 0} (f : A → List B) (size : B → ℕ) where
  pub longest_turn : (xs : List A) (i : ℕ) (x : A) (found n new : ℕ) → capped (max found (largest size (flat_map f (drop i xs)))) ≡ capped (largest size (flat_map f xs))
      → i < length xs → x ≡ get_or xs i x → n ≡ capped (largest size (f x)) → new ≡ max found n
      → capped (max new (largest size (flat_map f (drop (i + 1) xs)))) ≡ capped (largest size (flat_map f xs))
  longest_turn xs i x found n new same inside is here made =
      let all : largest size (flat_map f (drop i xs)) ≡ max (largest size (f x)) (largest size (flat_map f (drop (i + 1) xs))) =
      ap (λ (ys : List A). largest size (flat_map f ys)) (left_at xs i x inside is) ∙ largest_append size (f x) (flat_map f (drop (i + 1) xs)) in
      omega (arith, same, here, made, all)

or_flat : (a b c : Bool) → ((a || b) || c) ≡ (a || (b || c))
or_flat true b c = refl
or_flat false b c = refl

module _ {A : Type 0} (p : A → Bool) where
  pub any_turn : (xs : List A) (i : ℕ) (x : A) (l m : Bool) → (l || list_any p (drop i xs)) ≡ list_any p xs → i < length xs → x ≡ get_or xs i x → m ≡ p x
      → ((l || m) || list_any p (drop (i + 1) xs)) ≡ list_any p xs
  any_turn xs i x l m same inside is here =
      or_flat l m (list_any p (drop (i + 1) xs))
      ∙ (ap (λ (b : Bool). l || (b || list_any p (drop (i + 1) xs))) here ∙ (sym (ap (λ (ys : List A). l || list_any p ys) (left_at xs i x inside is)) ∙ same))
