-- What a long list in halves is: a row, or two halves.
use Rattle.std.proofs.Common.{ℕ, zero, suc, ◌-◌, ◌≡◌, ◌≤◌, ◌<◌, refl, sym, ◌∙◌, ap, Bool, true, false, List, length, map, arith}
use Rattle.std.specs.Prelude.{nat_le, take, drop}
use Rattle.std.proofs.lemmas.Bool.Decides.{nat_tests}
use Rattle.std.proofs.lemmas.List.{length-take, length-drop, take-map, drop-map, length-map}
use Rattle.sql_layout.specs.Lists.{half, in_halves, halved}

-- each half of a list of more than 64 is shorter
pub first_shorter : {A : Type 0} (xs : List A) (n : ℕ) → nat_le (length xs) 64 ≡ false → length xs ≤ suc n → length (take (half (length xs)) xs) ≤ n
first_shorter xs n many within = let h = length-take (half (length xs)) xs in let less = shorter (length xs) many in omega (arith, h, less, within) where
  shorter : (count : ℕ) → nat_le count 64 ≡ false → half count < count
  shorter count many = grind (arith, nat_tests)

pub second_shorter : {A : Type 0} (xs : List A) (n : ℕ) → nat_le (length xs) 64 ≡ false → length xs ≤ suc n → length (drop (half (length xs)) xs) ≤ n
second_shorter xs n many within = let h = length-drop (half (length xs)) xs in omega (arith, h, within)

module _ {A B : Type 0} (row : List A → B) (two : B → B → B) where
  abbrev halves_of : ℕ → List A → B
  halves_of n xs = two (in_halves row two n (take (half (length xs)) xs)) (in_halves row two n (drop (half (length xs)) xs))

  pub row_is : (n : ℕ) (xs : List A) → nat_le (length xs) 64 ≡ true → in_halves row two n xs ≡ row xs
  unfolding in_halves
  row_is zero xs few = refl
  row_is (suc n) xs few = rw few refl

  pub halves_are : (n : ℕ) (xs : List A) → nat_le (length xs) 64 ≡ false → in_halves row two (suc n) xs ≡ halves_of n xs
  unfolding in_halves
  halves_are n xs many = rw many refl

  -- halving a list more often changes nothing
  enough : (n m : ℕ) (xs : List A) → length xs ≤ n → length xs ≤ m → in_halves row two n xs ≡ in_halves row two m xs
  enough zero m xs within inside = row_is zero xs few ∙ sym (row_is m xs few) where
    few : nat_le (length xs) 64 ≡ true
    few = grind (arith, nat_tests)
  enough (suc n) zero xs within inside = row_is (suc n) xs few ∙ sym (row_is zero xs few) where
    few : nat_le (length xs) 64 ≡ true
    few = grind (arith, nat_tests)
  enough (suc n) (suc m) xs within inside = by (nat_le (length xs) 64) refl (enough n m) where
    by : (b : Bool) → nat_le (length xs) 64 ≡ b → ((ys : List A) → length ys ≤ n → length ys ≤ m → in_halves row two n ys ≡ in_halves row two m ys)
        → in_halves row two (suc n) xs ≡ in_halves row two (suc m) xs
    by true few below = row_is (suc n) xs few ∙ sym (row_is (suc m) xs few)
    by false many below =
        halves_are n xs many
        ∙ (ap (λ (b : B). two b (in_halves row two n (drop (half (length xs)) xs))) (below (take (half (length xs)) xs) (first_shorter xs n many within) (first_shorter xs m many inside))
        ∙ (ap (two (in_halves row two m (take (half (length xs)) xs))) (below (drop (half (length xs)) xs) (second_shorter xs n many within) (second_shorter xs m many inside))
        ∙ sym (halves_are m xs many)))

  -- at most 64 are a row
  pub in_a_row : (xs : List A) → length xs ≤ 64 → halved row two xs ≡ row xs
  in_a_row xs few = row_is (length xs) xs (grind (arith, nat_tests))

  -- and more are two halves
  pub in_two : (xs : List A) → 64 < length xs → halved row two xs ≡ two (halved row two (take (half (length xs)) xs)) (halved row two (drop (half (length xs)) xs))
  in_two xs more =
      let many : nat_le (length xs) 64 ≡ false = grind (arith, nat_tests) in
      let n = length xs - 1 in
      let within : length xs ≤ suc n = omega (arith, more) in
      let next : length xs ≡ suc n = omega (arith, more) in
      ap (λ (m : ℕ). in_halves row two m xs) next
      ∙ (halves_are n xs many
      ∙ (ap (λ (b : B). two b (in_halves row two n (drop (half (length xs)) xs)))
      (enough n (length (take (half (length xs)) xs)) (take (half (length xs)) xs) (first_shorter xs n many within) (omega arith))
      ∙ ap (two (halved row two (take (half (length xs)) xs)))
      (enough n (length (drop (half (length xs)) xs)) (drop (half (length xs)) xs) (second_shorter xs n many within) (omega arith))))

-- what holds of rows and of two halves holds of lists in halves
module _ {A B C D : Type 0} (row : List A → B) (two : B → B → B) (line : List C → D) (both : D → D → D) (g : A → C) (f : B → D)
    (rows : (xs : List A) → f (row xs) ≡ line (map g xs)) (twos : (a b : B) → f (two a b) ≡ both (f a) (f b)) where
  pub carried : (n : ℕ) (xs : List A) → f (in_halves row two n xs) ≡ in_halves line both n (map g xs)
  unfolding in_halves
  carried zero xs = rows xs
  carried (suc n) xs = by (nat_le (length xs) 64) refl (carried n) where
    same_length : length (map g xs) ≡ length xs
    same_length = length-map xs g

    by : (b : Bool) → nat_le (length xs) 64 ≡ b → ((ys : List A) → f (in_halves row two n ys) ≡ in_halves line both n (map g ys))
        → f (in_halves row two (suc n) xs) ≡ in_halves line both (suc n) (map g xs)
    by true few below =
        ap f (row_is row two (suc n) xs few)
        ∙ (rows xs ∙ sym (row_is line both (suc n) (map g xs) (ap (λ (k : ℕ). nat_le k 64) same_length ∙ few)))
    by false many below =
        let k = half (length xs) in
        let same : half (length (map g xs)) ≡ k = ap half same_length in
        ap f (halves_are row two n xs many)
        ∙ (twos (in_halves row two n (take k xs)) (in_halves row two n (drop k xs))
        ∙ (ap (λ (d : D). both d (f (in_halves row two n (drop k xs)))) (below (take k xs) ∙ ap (in_halves line both n) (sym (take-map g k xs)))
        ∙ (ap (both (in_halves line both n (take k (map g xs)))) (below (drop k xs) ∙ ap (in_halves line both n) (sym (drop-map g k xs)))
        ∙ (ap (λ (j : ℕ). both (in_halves line both n (take j (map g xs))) (in_halves line both n (drop j (map g xs)))) (sym same)
        ∙ sym (halves_are line both n (map g xs) (ap (λ (j : ℕ). nat_le j 64) same_length ∙ many))))))
