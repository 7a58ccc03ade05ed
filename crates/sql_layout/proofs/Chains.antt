-- What is reckoned of a chain in halves, part by part, is reckoned of the list of its parts in halves.
use Rattle.std.proofs.Common.{ℕ, zero, suc, ◌≡◌, ◌<◌, refl, sym, ◌∙◌, ap, Bool, true, false, List, [], ◌∷◌, ◌++◌, length, map, arith}
use Rattle.std.specs.Prelude.{nat_le, take, drop}
use Rattle.std.proofs.lemmas.Bool.Decides.{nat_tests}
use Rattle.std.proofs.lemmas.List.{take-map, drop-map, length-map}
use Rattle.sql_lang.specs.Grammar.{Ors, last_and, and_or, Ands, last_not, not_and, Nots, enclosed}
use Rattle.sql_layout.specs.Halves.{or_join, and_join, or_count, and_count, first_ors, later_ors, first_ands, later_ands, middle, ors_in_halves, ands_in_halves, halved_ors, halved_ands}
use Rattle.sql_layout.specs.Lists.{half, in_halves, halved}
use Rattle.sql_layout.proofs.Lists.{row_is, halves_are}

-- the parts of a chain
abbrev pub or_parts : Ors → List Ands
or_parts (last_and a) = a ∷ []
or_parts (and_or a o) = a ∷ or_parts o

abbrev pub and_parts : Ands → List Nots
and_parts (last_not n) = n ∷ []
and_parts (not_and n a) = n ∷ and_parts a

pub or_parts_joined : (o p : Ors) → or_parts (or_join o p) ≡ or_parts o ++ or_parts p
or_parts_joined (last_and a) p = refl
or_parts_joined (and_or a o) p = ap (λ (more : List Ands). a ∷ more) (or_parts_joined o p)

pub and_parts_joined : (a b : Ands) → and_parts (and_join a b) ≡ and_parts a ++ and_parts b
and_parts_joined (last_not n) b = refl
and_parts_joined (not_and n a) b = ap (λ (ns : List Nots). n ∷ ns) (and_parts_joined a b)

or_counted : (o : Ors) → length (or_parts o) ≡ or_count o
or_counted (last_and a) = refl
or_counted (and_or a o) = ap suc (or_counted o)

and_counted : (a : Ands) → length (and_parts a) ≡ and_count a
and_counted (last_not n) = refl
and_counted (not_and n a) = ap suc (and_counted a)

first_or_parts : (k : ℕ) (o : Ors) → or_parts (first_ors k o) ≡ take (suc k) (or_parts o)
first_or_parts zero (last_and a) = refl
first_or_parts (suc k) (last_and a) = refl
first_or_parts zero (and_or a o) = refl
first_or_parts (suc k) (and_or a o) = ap (λ (more : List Ands). a ∷ more) (first_or_parts k o)

later_or_parts : (k : ℕ) (o : Ors) → suc k < or_count o → or_parts (later_ors k o) ≡ drop (suc k) (or_parts o)
later_or_parts k (last_and a) more = absurd (omega arith)
later_or_parts zero (and_or a o) more = refl
later_or_parts (suc k) (and_or a o) more = later_or_parts k o (omega (arith, more))

first_and_parts : (k : ℕ) (a : Ands) → and_parts (first_ands k a) ≡ take (suc k) (and_parts a)
first_and_parts zero (last_not n) = refl
first_and_parts (suc k) (last_not n) = refl
first_and_parts zero (not_and n a) = refl
first_and_parts (suc k) (not_and n a) = ap (λ (ns : List Nots). n ∷ ns) (first_and_parts k a)

later_and_parts : (k : ℕ) (a : Ands) → suc k < and_count a → and_parts (later_ands k a) ≡ drop (suc k) (and_parts a)
later_and_parts k (last_not n) more = absurd (omega arith)
later_and_parts zero (not_and n a) more = refl
later_and_parts (suc k) (not_and n a) more = later_and_parts k a (omega (arith, more))

longer : (count : ℕ) → nat_le count 64 ≡ false → suc (middle count) < count
longer count h = grind (arith, nat_tests)

module _ {A B : Type 0} (row : List A → B) (two : B → B → B) where
  module _ (part : Ands → A) (whole : Ors → B) (rows : (o : Ors) → whole o ≡ row (map part (or_parts o)))
      (twos : (o p : Ors) → whole (or_join o (last_and (last_not (enclosed p)))) ≡ two (whole o) (whole p)) where
    ors_carried : (n : ℕ) (o : Ors) → whole (ors_in_halves n o) ≡ in_halves row two n (map part (or_parts o))
    unfolding ors_in_halves in_halves
    ors_carried zero o = rows o
    ors_carried (suc n) o = by (nat_le (or_count o) 64) refl (ors_carried n) where
      counted : length (map part (or_parts o)) ≡ or_count o
      counted = length-map (or_parts o) part ∙ or_counted o

      by : (b : Bool) → nat_le (or_count o) 64 ≡ b → ((p : Ors) → whole (ors_in_halves n p) ≡ in_halves row two n (map part (or_parts p)))
          → whole (ors_in_halves (suc n) o) ≡ in_halves row two (suc n) (map part (or_parts o))
      by true few below = rw few (rows o ∙ sym (row_is row two (suc n) (map part (or_parts o)) (ap (λ (k : ℕ). nat_le k 64) counted ∙ few)))
      by false many below =
          let k = middle (or_count o) in
          let ys = map part (or_parts o) in
          let one : map part (or_parts (first_ors k o)) ≡ take (half (length ys)) ys =
          ap (map part) (first_or_parts k o) ∙ (sym (take-map part (suc k) (or_parts o)) ∙ ap (λ (j : ℕ). take (half j) ys) (sym counted)) in
          let other : map part (or_parts (later_ors k o)) ≡ drop (half (length ys)) ys =
          ap (map part) (later_or_parts k o (longer (or_count o) many)) ∙ (sym (drop-map part (suc k) (or_parts o)) ∙ ap (λ (j : ℕ). drop (half j) ys) (sym counted)) in
          let same : whole (or_join (ors_in_halves n (first_ors k o)) (last_and (last_not (enclosed (ors_in_halves n (later_ors k o))))))
          ≡ in_halves row two (suc n) ys =
          twos (ors_in_halves n (first_ors k o)) (ors_in_halves n (later_ors k o))
          ∙ (ap (λ (b : B). two b (whole (ors_in_halves n (later_ors k o)))) (below (first_ors k o) ∙ ap (in_halves row two n) one)
          ∙ (ap (two (in_halves row two n (take (half (length ys)) ys))) (below (later_ors k o) ∙ ap (in_halves row two n) other)
          ∙ sym (halves_are row two n ys (ap (λ (j : ℕ). nat_le j 64) counted ∙ many)))) in
          rw many same

    pub ors_halved : (o : Ors) → whole (halved_ors o) ≡ halved row two (map part (or_parts o))
    ors_halved o = ors_carried (or_count o) o ∙ ap (λ (n : ℕ). in_halves row two n (map part (or_parts o))) (sym (length-map (or_parts o) part ∙ or_counted o))

  module _ (part : Nots → A) (whole : Ands → B) (rows : (a : Ands) → whole a ≡ row (map part (and_parts a)))
      (twos : (a b : Ands) → whole (and_join a (last_not (enclosed (last_and b)))) ≡ two (whole a) (whole b)) where
    ands_carried : (n : ℕ) (a : Ands) → whole (ands_in_halves n a) ≡ in_halves row two n (map part (and_parts a))
    unfolding ands_in_halves in_halves
    ands_carried zero a = rows a
    ands_carried (suc n) a = by (nat_le (and_count a) 64) refl (ands_carried n) where
      counted : length (map part (and_parts a)) ≡ and_count a
      counted = length-map (and_parts a) part ∙ and_counted a

      by : (b : Bool) → nat_le (and_count a) 64 ≡ b → ((c : Ands) → whole (ands_in_halves n c) ≡ in_halves row two n (map part (and_parts c)))
          → whole (ands_in_halves (suc n) a) ≡ in_halves row two (suc n) (map part (and_parts a))
      by true few below = rw few (rows a ∙ sym (row_is row two (suc n) (map part (and_parts a)) (ap (λ (k : ℕ). nat_le k 64) counted ∙ few)))
      by false many below =
          let k = middle (and_count a) in
          let ys = map part (and_parts a) in
          let one : map part (and_parts (first_ands k a)) ≡ take (half (length ys)) ys =
          ap (map part) (first_and_parts k a) ∙ (sym (take-map part (suc k) (and_parts a)) ∙ ap (λ (j : ℕ). take (half j) ys) (sym counted)) in
          let other : map part (and_parts (later_ands k a)) ≡ drop (half (length ys)) ys =
          ap (map part) (later_and_parts k a (longer (and_count a) many)) ∙ (sym (drop-map part (suc k) (and_parts a)) ∙ ap (λ (j : ℕ). drop (half j) ys) (sym counted)) in
          let same : whole (and_join (ands_in_halves n (first_ands k a)) (last_not (enclosed (last_and (ands_in_halves n (later_ands k a))))))
          ≡ in_halves row two (suc n) ys =
          twos (ands_in_halves n (first_ands k a)) (ands_in_halves n (later_ands k a))
          ∙ (ap (λ (b : B). two b (whole (ands_in_halves n (later_ands k a)))) (below (first_ands k a) ∙ ap (in_halves row two n) one)
          ∙ (ap (two (in_halves row two n (take (half (length ys)) ys))) (below (later_ands k a) ∙ ap (in_halves row two n) other)
          ∙ sym (halves_are row two n ys (ap (λ (j : ℕ). nat_le j 64) counted ∙ many)))) in
          rw many same

    pub ands_halved : (a : Ands) → whole (halved_ands a) ≡ halved row two (map part (and_parts a))
    ands_halved a = ands_carried (and_count a) a ∙ ap (λ (n : ℕ). in_halves row two n (map part (and_parts a))) (sym (length-map (and_parts a) part ∙ and_counted a))
