-- A field of whole numbers takes the term of each whole number's decimal.
use Rattle.std.proofs.Common.{ℕ, suc, ◌≡◌, ◌+◌, ◌-◌, ◌*◌, ◌/◌, ◌%◌, ◌^◌, ◌<◌, ◌≤◌, refl, sym, ◌∙◌, ap, Bool, true, false, List, [], ◌∷◌, ◌++◌, arith, codes}
use Rattle.std.specs.Prelude.{ℤ, pos, negsuc, nat_lt, nat_le, ◌==◌, ◌||◌, ◌&&◌, if◌then◌else◌, map, not}
use Rattle.std.specs.Fmt.{decimal, signed_decimal}
use Rattle.std.specs.List.{list_all}
use Rattle.std.specs.Str.{bytes_eq}
use Rattle.std.proofs.lemmas.List.Folds.{list_all-append}
use Rattle.std.proofs.lemmas.Bool.Decides.{nat_tests}
use Rattle.std.proofs.lemmas.Int.{ints}
use Rattle.std.proofs.lemmas.Fmt.{decimal_by_steps}
use Rattle.std.proofs.lemmas.Bool.{or_right, and_parts}
use Rattle.sig_base.specs.Digits.{is_digit, is_positive, unsigned, digits_from}
use Rattle.event_schema.specs.Events.{IsWholeNumber}
use Rattle.lucene_lang.specs.declared.query.Glyph.TheVariants.{Run}
use Rattle.lucene_lang.specs.Tokens.{is_decimal, run_sort}
use Rattle.lucene_lang.specs.Grammar.{Term, a_term}
use Rattle.lucene_lang.specs.Faults.{is_ill, is_number}
use Rattle.lucene_layout.specs.Escaped.{as_char, pattern_written, term_for}
use Rattle.lucene_layout.proofs.Scanned.{DecimalIs, decimal_is}
use Rattle.lucene_layout.proofs.Laid.{decimal_scalars}
use Rattle.lucene_layout.proofs.Escapes.{exact_for, name_fine}

-- ---- the decimal of a number without a sign

pub record Writes (n : ℕ) (ds : List ℕ) : Type 0 where
  pub value : digits_from 0 ds ≡ n
  pub canonical : (bytes_eq ds (codes "0") || is_positive ds) ≡ true
  pub positive : (n == 0) ≡ false → is_positive ds ≡ true

digits_from_last : (n : ℕ) (ds : List ℕ) (d : ℕ) → digits_from n (ds ++ d ∷ []) ≡ 10 * digits_from n ds + (d - 48)
digits_from_last n [] d = refl
digits_from_last n (c ∷ ds) d = digits_from_last (10 * n + (c - 48)) ds d

digit_of : (k : ℕ) → k < 10 → is_digit (48 + k) ≡ true
digit_of k small = grind (arith, nat_tests)

positive_last : (ds : List ℕ) (d : ℕ) → is_positive ds ≡ true → is_digit d ≡ true → is_positive (ds ++ d ∷ []) ≡ true
positive_last [] d first last = absurd cc
positive_last (c ∷ ds) d first last =
    let each = and_parts (nat_le 49 c && nat_le c 57) (list_all is_digit ds) first in
    let here = each.0 in
    let one : list_all is_digit (d ∷ []) ≡ true = rw last refl in
    let more = each.1 in
    let all : list_all is_digit (ds ++ d ∷ []) ≡ true = list_all-append is_digit ds (d ∷ []) ∙ rw (more, one) refl in
    rw (here, all) refl

one_positive : (n : ℕ) → n < 10 → (n == 0) ≡ false → (nat_le 49 (48 + n) && nat_le (48 + n) 57) ≡ true
one_positive n small some = grind (arith, nat_tests)

one_digit : (n : ℕ) → n < 10 → Writes n ((48 + n) ∷ [])
one_digit n small = record { value = omega arith; canonical = by (n == 0) refl; positive = positive_one } where
  positive_one : (n == 0) ≡ false → is_positive ((48 + n) ∷ []) ≡ true
  positive_one some = let h = one_positive n small some in rw h refl

  zero_is : (n == 0) ≡ true → (48 + n == 48) ≡ true
  zero_is h = grind (arith, nat_tests)

  by : (b : Bool) → (n == 0) ≡ b → (bytes_eq ((48 + n) ∷ []) (codes "0") || is_positive ((48 + n) ∷ [])) ≡ true
  by true is = let h = zero_is is in rw h refl
  by false is = or_right (bytes_eq ((48 + n) ∷ []) (codes "0")) (is_positive ((48 + n) ∷ [])) (positive_one is)

not_none : (n : ℕ) → 10 ≤ n → (n / 10 == 0) ≡ false
not_none n big = let some : 1 ≤ n / 10 = omega arith in grind (arith, nat_tests)

more_digits : (n : ℕ) (ds : List ℕ) → 10 ≤ n → Writes (n / 10) ds → Writes n (ds ++ ((48 + n % 10) ∷ []))
more_digits n ds big w =
    let p = positive_last ds (48 + n % 10) (w.positive (not_none n big)) (digit_of (n % 10) (omega arith)) in
    record {
      value = digits_from_last 0 ds (48 + n % 10) ∙ rw w.value (omega arith);
      canonical = or_right (bytes_eq (ds ++ ((48 + n % 10) ∷ [])) (codes "0")) (is_positive (ds ++ ((48 + n % 10) ∷ []))) p;
      positive = λ some. p;
    }

pub decimal_writes : (n : ℕ) → n < 2 ^ 64 → Writes n (decimal n)
decimal_writes n small = decimal_by_steps Writes one_digit more_digits n small

-- ---- with a sign

positive_no_minus : (c : ℕ) → (nat_le 49 c && nat_le c 57) ≡ true → (c == 45) ≡ false
positive_no_minus c h = grind (arith, nat_tests)

pub canonical_unsigned : (ds : List ℕ) → (bytes_eq ds (codes "0") || is_positive ds) ≡ true → unsigned ds ≡ ds
canonical_unsigned [] h = refl
canonical_unsigned (c ∷ v) h = by (c == 45) refl where
  minus_not : (c == 45) ≡ true → (bytes_eq (c ∷ v) (codes "0") || is_positive (c ∷ v)) ≡ false
  minus_not is =
      let zero : (c == 48) ≡ false = grind (arith, nat_tests) in
      let low : nat_le 49 c ≡ false = grind (arith, nat_tests) in
      rw (zero, low) refl

  by : (b : Bool) → (c == 45) ≡ b → (if b then v else c ∷ v) ≡ c ∷ v
  by true is = let clash : false ≡ true = sym (minus_not is) ∙ h in absurd cc
  by false is = refl

small_test : (m n : ℕ) → m < n → nat_lt m n ≡ true
small_test m n h = grind (arith, nat_tests)

in_range : (w ds : List ℕ) (n : ℕ) → is_decimal w ≡ true → unsigned w ≡ ds → digits_from 0 ds ≡ n → n < 2 ^ 63 → is_number w ≡ true
unfolding is_number
in_range w ds n canonical same value small =
    let whole : digits_from 0 (unsigned w) ≡ n = ap (digits_from 0) same ∙ value in
    let test : nat_lt n (2 ^ 63) ≡ true = small_test n (2 ^ 63) small in
    rw (canonical, whole, test) refl

plain_decimal : (ds : List ℕ) → (bytes_eq ds (codes "0") || is_positive ds) ≡ true → is_decimal ds ≡ true
unfolding is_decimal
plain_decimal ds h = let same = canonical_unsigned ds h in rw same h

minus_decimal : (ds : List ℕ) → is_positive ds ≡ true → is_decimal (45 ∷ ds) ≡ true
unfolding is_decimal
minus_decimal ds h = h

pub is_number_of : (z : ℤ) → IsWholeNumber z → is_number (signed_decimal z) ≡ true
is_number_of (pos n) whole =
    let small : n < 2 ^ 63 = omega (arith, ints) in
    let w = decimal_writes n (omega arith) in
    in_range (decimal n) (decimal n) n (plain_decimal (decimal n) w.canonical) (canonical_unsigned (decimal n) w.canonical) w.value small
is_number_of (negsuc n) whole =
    let small : suc n < 2 ^ 63 = omega (arith, ints) in
    let w = decimal_writes (suc n) (omega arith) in
    let some : (suc n == 0) ≡ false = grind (arith, nat_tests) in
    in_range (45 ∷ decimal (suc n)) (decimal (suc n)) (suc n) (minus_decimal (decimal (suc n)) (w.positive some)) refl w.value small

-- ---- terms

pub star_taken : is_ill true (a_term (term_for (Run ∷ []))) ≡ false
unfolding term_for pattern_written run_sort is_decimal
star_taken = refl

pub decimal_part : (cs : List ℕ) → is_number cs ≡ true → is_decimal cs ≡ true
unfolding is_number
decimal_part cs h = (and_parts (is_decimal cs) _ h).0

text_taken : (cs : List ℕ) → is_number cs ≡ true → is_ill true (a_term (term_for (map as_char cs))) ≡ false
text_taken cs h = by cs (decimal_is cs (decimal_part cs h)) h where
  by : (ds : List ℕ) → DecimalIs ds → is_number ds ≡ true → is_ill true (a_term (term_for (map as_char ds))) ≡ false
  by [] d g = absurd d
  by (c ∷ ds) d g =
      let scalars = decimal_scalars (c ∷ ds) d in
      ap (λ (t : Term). is_ill true (a_term t)) (exact_for (c ∷ ds))
      ∙ (ap (λ (text : List ℕ). not (is_number text)) (name_fine c ds scalars).name ∙ ap not g)

pub number_taken : (z : ℤ) → IsWholeNumber z → is_ill true (a_term (term_for (map as_char (signed_decimal z)))) ≡ false
number_taken z whole = text_taken (signed_decimal z) (is_number_of z whole)
