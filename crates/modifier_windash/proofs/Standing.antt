-- Which choice stands at a number.
use Rattle.std.proofs.Common.{◌≡◌, ℕ, ◌+◌, ◌*◌, ◌/◌, ◌%◌, ◌<◌, ◌≤◌, zero, suc, List, [], ◌∷◌, ◌++◌, length, get_or, refl, sym, ap, ◌∙◌, subst, arith, Some, None}
use Rattle.std.specs.Prelude.{option_map}
use Rattle.std.specs.List.{flat_map, slice_get}
use Rattle.std.proofs.Math.Nat.{suc-mul, add-mul, mul_assoc}
use Rattle.std.proofs.lemmas.Nat.{div-add-mod', mul-add-lt}
use Rattle.std.proofs.lemmas.Option.{slice_get-map, slice_get_past}
use Rattle.sig_strings.specs.declared.part.Part.{Part}
use Rattle.sig_strings.specs.declared.part.Part.TheVariants.{Char, One, Run, Dash, Hole}
use Rattle.modifier_windash.specs.Choices.{choices, before_each, dash_signs}
use Rattle.modifier_windash.specs.Places.{number_before, chosen_parts, sign_at}
use Rattle.modifier_windash.proofs.Counting.{as_many, in_rows}

-- the pattern stands in the list at what the number is beyond so many whole lists
record StandsAt (patterns : List (List Part)) (lists number : ℕ) (parts : List Part) : Type 0 where
  place : ℕ
  inside : place < length patterns
  beyond : number ≡ lists * length patterns + place
  there : slice_get patterns place ≡ Some parts

in_first : (xs ys : List (List Part)) (k : ℕ) (x : List Part) → slice_get xs k ≡ Some x → slice_get (xs ++ ys) k ≡ Some x
in_first [] ys k x is = cc
in_first (y ∷ xs) ys zero x is = is
in_first (y ∷ xs) ys (suc k) x is = in_first xs ys k x is

in_second : (xs ys : List (List Part)) (k : ℕ) → slice_get (xs ++ ys) (length xs + k) ≡ slice_get ys k
in_second [] ys k = let e : 0 + k ≡ k = omega arith in ap (λ n. slice_get ys n) e
in_second (x ∷ xs) ys k =
    let e : suc (length xs) + k ≡ suc (length xs + k) = omega arith in
    ap (λ n. slice_get (x ∷ (xs ++ ys)) n) e ∙ in_second xs ys k

-- the pattern behind a part
behind : (part : Part) (patterns : List (List Part)) (k : ℕ) (parts : List Part) → slice_get patterns k ≡ Some parts
    → slice_get (before_each part patterns) k ≡ Some (part ∷ parts)
behind part patterns k parts is = slice_get-map (λ p. part ∷ p) patterns k ∙ ap (option_map (λ p. part ∷ p)) is

-- the pattern in the row of a sign
in_row : (signs : List ℕ) (patterns : List (List Part)) (digit k : ℕ) (parts : List Part) → digit < length signs → slice_get patterns k ≡ Some parts
    → slice_get (flat_map (λ sign. before_each (Char sign) patterns) signs) (digit * length patterns + k) ≡ Some (Char (get_or signs digit 0x2015) ∷ parts)
in_row [] patterns digit k parts few is = absurd (omega (arith, few))
in_row (sign ∷ signs) patterns zero k parts few is =
    let row : List (List Part) = before_each (Char sign) patterns in
    let rows : List (List Part) = flat_map (λ s. before_each (Char s) patterns) signs in
    let e : 0 * length patterns + k ≡ k = omega arith in
    ap (λ n. slice_get (row ++ rows) n) e ∙ in_first row rows k (Char sign ∷ parts) (behind (Char sign) patterns k parts is)
in_row (sign ∷ signs) patterns (suc digit) k parts few is =
    let row : List (List Part) = before_each (Char sign) patterns in
    let rows : List (List Part) = flat_map (λ s. before_each (Char s) patterns) signs in
    let product : suc digit * length patterns ≡ digit * length patterns + length patterns = suc-mul digit (length patterns) in
    let wide : length row ≡ length patterns = as_many (Char sign) patterns in
    let e : suc digit * length patterns + k ≡ length row + (digit * length patterns + k) = omega (arith, product, wide) in
    ap (λ n. slice_get (row ++ rows) n) e ∙ in_second row rows (digit * length patterns + k)
    ∙ in_row signs patterns digit k parts (omega (arith, few)) is

-- one more part that is no dash place
plain : (part : Part) (patterns : List (List Part)) (lists number : ℕ) (parts : List Part) → StandsAt patterns lists number parts
    → StandsAt (before_each part patterns) lists number (part ∷ parts)
plain part patterns lists number parts at =
    let wide : length patterns ≡ length (before_each part patterns) = sym (as_many part patterns) in
    record {
      place = at.place;
      inside = subst (λ n. at.place < n) wide at.inside;
      beyond = subst (λ n. number ≡ lists * n + at.place) wide at.beyond;
      there = behind part patterns at.place parts at.there;
    }

-- one more dash place
dash : (patterns : List (List Part)) (lists number : ℕ) (parts : List Part) → StandsAt patterns lists number parts
    → StandsAt (flat_map (λ sign. before_each (Char sign) patterns) dash_signs) (lists / 5) number (Char (sign_at (lists % 5)) ∷ parts)
dash patterns lists number parts at =
    let wide : 5 * length patterns ≡ length (flat_map (λ sign. before_each (Char sign) patterns) dash_signs) = sym (in_rows dash_signs patterns) in
    let few : lists % 5 < 5 = omega arith in
    let cut : lists / 5 * 5 + lists % 5 ≡ lists = div-add-mod' lists 5 in
    let spread : (lists / 5 * 5 + lists % 5) * length patterns ≡ lists / 5 * 5 * length patterns + lists % 5 * length patterns =
    add-mul (lists / 5 * 5) (lists % 5) (length patterns) in
    let turned : lists / 5 * 5 * length patterns ≡ lists / 5 * (5 * length patterns) = mul_assoc (lists / 5) 5 (length patterns) in
    let product : (lists / 5 * 5 + lists % 5) * length patterns ≡ lists * length patterns = ap (λ n. n * length patterns) cut in
    let here : number ≡ lists / 5 * (5 * length patterns) + (lists % 5 * length patterns + at.place) =
    omega (arith, at.beyond, spread, turned, product) in
    let low : lists % 5 * length patterns + at.place < 5 * length patterns = omega (arith, mul-add-lt (lists % 5) (length patterns) at.place 5 few at.inside) in
    record {
      place = lists % 5 * length patterns + at.place;
      inside = subst (λ n. lists % 5 * length patterns + at.place < n) wide low;
      beyond = subst (λ n. number ≡ lists / 5 * n + (lists % 5 * length patterns + at.place)) wide here;
      there = in_row dash_signs patterns (lists % 5) at.place parts few at.there;
    }

stands : (parts : List Part) (number : ℕ) → StandsAt (choices parts) (number_before parts number) number (chosen_parts parts number)
stands [] number = record { place = 0; inside = omega arith; beyond = omega arith; there = refl }
stands (Char c ∷ parts) number = plain (Char c) (choices parts) (number_before parts number) number (chosen_parts parts number) (stands parts number)
stands (One ∷ parts) number = plain One (choices parts) (number_before parts number) number (chosen_parts parts number) (stands parts number)
stands (Run ∷ parts) number = plain Run (choices parts) (number_before parts number) number (chosen_parts parts number) (stands parts number)
stands (Dash ∷ parts) number = dash (choices parts) (number_before parts number) number (chosen_parts parts number) (stands parts number)
stands (Hole name ∷ parts) number = plain (Hole name) (choices parts) (number_before parts number) number (chosen_parts parts number) (stands parts number)

-- where nothing is left of the number, the choice that was made is the one of the number
pub made : (pattern copy parts chosen : List Part) (number left : ℕ) → copy ≡ pattern → left ≡ number_before copy number → left ≤ 0
    → parts ≡ chosen_parts copy number → chosen ≡ parts → Some chosen ≡ slice_get (choices pattern) number
made pattern copy parts chosen number left same is none given shared =
    let at : StandsAt (choices copy) (number_before copy number) number (chosen_parts copy number) = stands copy number in
    let few : number_before copy number ≡ 0 = sym is ∙ omega (arith, none) in
    let beyond : number ≡ 0 * length (choices copy) + at.place = subst (λ n. number ≡ n * length (choices copy) + at.place) few at.beyond in
    let here : number ≡ at.place = omega (arith, beyond) in
    let found : slice_get (choices copy) number ≡ Some (chosen_parts copy number) = ap (λ n. slice_get (choices copy) n) here ∙ at.there in
    ap (λ c. Some c) (shared ∙ given) ∙ sym found ∙ ap (λ (p : List Part). slice_get (choices p) number) same

-- where more is left of it, there are fewer choices
pub missing : (pattern copy : List Part) (number left : ℕ) → copy ≡ pattern → left ≡ number_before copy number → 0 < left
    → None ≡ slice_get (choices pattern) number
missing pattern copy number left same is some =
    let at : StandsAt (choices copy) (number_before copy number) number (chosen_parts copy number) = stands copy number in
    let more : 0 < number_before copy number = subst (λ n. 0 < n) is some in
    sym (slice_get_past (choices copy) number (past (number_before copy number) (length (choices copy)) at.place more at.beyond))
    ∙ ap (λ (p : List Part). slice_get (choices p) number) same
  where
    past : (lists wide place : ℕ) → 0 < lists → number ≡ lists * wide + place → wide ≤ number
    past zero wide place some is = absurd (omega (arith, some))
    past (suc lists) wide place some is =
        let product : suc lists * wide ≡ lists * wide + wide = suc-mul lists wide in
        omega (arith, is, product)
