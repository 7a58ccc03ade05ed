-- A whole number's decimal is a number of the language, and reads as this number.
use Rattle.std.proofs.Common.{ℕ, suc, ◌≡◌, ◌+◌, ◌-◌, ◌*◌, ◌/◌, ◌%◌, ◌^◌, ◌<◌, ◌≤◌, refl, ◌∙◌, ap, true, false, List, [], ◌∷◌, ◌++◌, arith}
use Rattle.std.specs.Prelude.{ℤ, pos, negsuc, nat_lt, ◌==◌}
use Rattle.std.specs.Fmt.{decimal, signed_decimal}
use Rattle.std.specs.List.{list_all}
use Rattle.std.proofs.lemmas.List.Folds.{list_all-append}
use Rattle.std.proofs.lemmas.Bool.Decides.{nat_tests}
use Rattle.std.proofs.lemmas.Int.{ints}
use Rattle.std.proofs.lemmas.Fmt.{decimal_by_steps}
use Rattle.std.proofs.lemmas.Bool.{and_parts}
use Rattle.sig_base.specs.Digits.{is_digit, unsigned, digits_from}
use Rattle.event_schema.specs.Events.{IsWholeNumber}
use Rattle.sql_lang.specs.Tokens.{are_digits, is_number, negative, number_of}

record Writes (n : ℕ) (ds : List ℕ) : Type 0 where
  digits : are_digits ds ≡ true
  value : digits_from 0 ds ≡ n

digits_from_last : (n : ℕ) (ds : List ℕ) (d : ℕ) → digits_from n (ds ++ d ∷ []) ≡ 10 * digits_from n ds + (d - 48)
digits_from_last n [] d = refl
digits_from_last n (c ∷ ds) d = digits_from_last (10 * n + (c - 48)) ds d

are_digits_last : (ds : List ℕ) (d : ℕ) → are_digits ds ≡ true → is_digit d ≡ true → are_digits (ds ++ d ∷ []) ≡ true
are_digits_last [] d all last = absurd cc
are_digits_last (c ∷ ds) d all last =
    let one : list_all is_digit (d ∷ []) ≡ true = rw last refl in
    list_all-append is_digit (c ∷ ds) (d ∷ []) ∙ rw (all, one) refl

digit_of : (k : ℕ) → k < 10 → is_digit (48 + k) ≡ true
digit_of k small = grind (arith, nat_tests)

one_digit : (n : ℕ) → n < 10 → Writes n ((48 + n) ∷ [])
one_digit n small = record { digits = (let h = digit_of n small in rw h refl); value = omega arith }

more_digits : (n : ℕ) (ds : List ℕ) → 10 ≤ n → Writes (n / 10) ds → Writes n (ds ++ ((48 + n % 10) ∷ []))
more_digits n ds big w = record {
  digits = are_digits_last ds (48 + n % 10) w.digits (digit_of (n % 10) (omega arith));
  value = digits_from_last 0 ds (48 + n % 10) ∙ rw w.value (omega arith);
}

decimal_writes : (n : ℕ) → n < 2 ^ 64 → Writes n (decimal n)
decimal_writes n small = decimal_by_steps Writes one_digit more_digits n small

digit_no_minus : (c : ℕ) → is_digit c ≡ true → (c == 45) ≡ false
digit_no_minus c h = grind (arith, nat_tests)

first_no_minus : (c : ℕ) (v : List ℕ) → are_digits (c ∷ v) ≡ true → (c == 45) ≡ false
first_no_minus c v all = digit_no_minus c (and_parts (is_digit c) (list_all is_digit v) all).0

plain_unsigned : (ds : List ℕ) → are_digits ds ≡ true → unsigned ds ≡ ds
plain_unsigned [] all = refl
plain_unsigned (c ∷ v) all = let h = first_no_minus c v all in rw h refl

plain_number : (ds : List ℕ) → are_digits ds ≡ true → number_of ds ≡ pos (digits_from 0 ds)
plain_number [] all = absurd cc
plain_number (c ∷ v) all = let h = first_no_minus c v all in rw h refl

small_test : (m n : ℕ) → m < n → nat_lt m n ≡ true
small_test m n h = grind (arith, nat_tests)

record IsDecimal (z : ℤ) : Type 0 where
  pub number : is_number (signed_decimal z) ≡ true
  pub value : number_of (signed_decimal z) ≡ z

unsigned_number : (w ds : List ℕ) (n : ℕ) → unsigned w ≡ ds → Writes n ds → n < 2 ^ 63 → is_number w ≡ true
unfolding is_number
unsigned_number w ds n same writes small =
    let digits : are_digits (unsigned w) ≡ true = ap are_digits same ∙ writes.digits in
    let value : digits_from 0 (unsigned w) ≡ n = ap (digits_from 0) same ∙ writes.value in
    let test : nat_lt n (2 ^ 63) ≡ true = small_test n (2 ^ 63) small in
    rw (digits, value, test) refl

pub decimal_reads : (z : ℤ) → IsWholeNumber z → (is_number (signed_decimal z) ≡ true) × (number_of (signed_decimal z) ≡ z)
decimal_reads (pos n) whole =
    let small : n < 2 ^ 63 = omega (arith, ints) in
    let w = decimal_writes n (omega arith) in
    (unsigned_number (decimal n) (decimal n) n (plain_unsigned (decimal n) w.digits) w small, plain_number (decimal n) w.digits ∙ ap pos w.value)
decimal_reads (negsuc n) whole =
    let small : suc n < 2 ^ 63 = omega (arith, ints) in
    let w = decimal_writes (suc n) (omega arith) in
    (unsigned_number (45 ∷ decimal (suc n)) (decimal (suc n)) (suc n) refl w small, ap negative w.value)
