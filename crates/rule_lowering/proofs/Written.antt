-- The whole number whose decimal a text is: there is one exactly where the text is the decimal of a whole number.
use Rattle.std.proofs.Common.{ℕ, zero, suc, ◌≡◌, ◌+◌, ◌/◌, ◌%◌, ◌^◌, ◌<◌, ◌≤◌, ℤ, pos, negsuc, neg_ℤ, Bool, true, false, nat_lt, ◌==◌, if◌then◌else◌, List, [], ◌∷◌, length, refl, sym, ap, ◌∙◌, arith, w64, Result, Ok, Err}
use Rattle.std.specs.Prelude.{Option, Some, None}
use Rattle.std.specs.Fmt.{digit_glyph, digits_onto, digits, decimal, signed_decimal}
use Rattle.std.specs.Str.{IsUtf8, bytes_eq, chars, encode_utf8_all}
use Rattle.std.specs.Str.Parse.{AllDigits, ParsesSigned, digits_value, signed_digits_value}
use Rattle.std.proofs.Math.Nat.{pow-suc}
use Rattle.std.proofs.lemmas.Bool.{ne_eqb, ltb-true}
use Rattle.std.proofs.lemmas.Bool.Decides.{nat_tests}
use Rattle.std.proofs.lemmas.Fmt.{IsAscii-signed, decimal_is_IsNumeral_wide, length_signed_le, parse-signed_decimal}
use Rattle.std.proofs.lemmas.Int.{ints}
use Rattle.std.specs.Int.Signed.{mag}
use Rattle.std.proofs.lemmas.Slice.Eq.{bytes_eq-Decides}
use Rattle.std.proofs.lemmas.Str.{encodes-chars, encodes-IsAscii}
use Rattle.std.proofs.lemmas.Str.Parse.{digit_from_value}
use Rattle.event_schema.specs.Events.{IsWholeNumber}
use Rattle.modifier_values.specs.Numbers.{is_whole}
use Rattle.modifier_values.proofs.Numbers.{whole_holds, whole_tests}
use Rattle.rule_lowering.specs.WholeNumbers.{if_whole, written_number}

-- ---- a decimal's sign and digits write its number

digits_write : (ds : List ℕ) → AllDigits 10 ds → 0 < length ds → signed_digits_value 10 ds ≡ pos (digits_value 10 ds)
digits_write [] all some = absurd (omega arith)
digits_write (c ∷ cs) all some =
    let range = digit_from_value c all.0 in
    let minus : (c == 45) ≡ false = ne_eqb c 45 (λ e. omega (arith, range.0)) in
    let plus : (c == 43) ≡ false = ne_eqb c 43 (λ e. omega (arith, range.0)) in
    rw minus (rw plus refl)

-- of at most 64 digits
abbrev IsShort : ℤ → Type 0
IsShort (pos n) = n < 10 ^ 64
IsShort (negsuc n) = suc n < 10 ^ 64

decimal_writes : (n : ℤ) → IsShort n → signed_digits_value 10 (signed_decimal n) ≡ n
decimal_writes (pos n) short =
    let own = decimal_is_IsNumeral_wide n short in
    digits_write (decimal n) own.0.1 own.0.0 ∙ ap pos own.1
decimal_writes (negsuc n) short = ap (λ m. neg_ℤ (pos m)) (decimal_is_IsNumeral_wide (suc n) short).1

whole_short : (n : ℤ) → IsWholeNumber n → IsShort n
whole_short (pos n) h = omega (arith, ints)
whole_short (negsuc n) h = omega (arith, ints)

mag_small : (n : ℤ) → IsWholeNumber n → (mag n + 1 < 10 ^ 19) × (mag n < 2 ^ 63)
mag_small (pos n) h = (omega (arith, ints), omega (arith, ints))
mag_small (negsuc n) h = (omega (arith, ints), omega (arith, ints))

-- ---- a decimal is of one number

one_power : (k : ℕ) → 1 ≤ 10 ^ k
one_power zero = omega arith
one_power (suc k) = omega (arith, one_power k, pow-suc 10 k)

-- a longer number fills all digits that there are
filled : (k n : ℕ) (acc : List ℕ) → 10 ^ k ≤ n → length (digits_onto k 10 false n acc) ≡ k + length acc
filled zero n acc h = omega arith
filled (suc k) n acc h = by (n / 10 == 0) refl (filled k (n / 10) (digit_glyph false (n % 10) ∷ acc) most) where
  most : 10 ^ k ≤ n / 10
  most = omega (arith, h, pow-suc 10 k)

  by : (b : Bool) → (n / 10 == 0) ≡ b → length (digits_onto k 10 false (n / 10) (digit_glyph false (n % 10) ∷ acc)) ≡ k + length (digit_glyph false (n % 10) ∷ acc)
      → length (if b then digit_glyph false (n % 10) ∷ acc else digits_onto k 10 false (n / 10) (digit_glyph false (n % 10) ∷ acc)) ≡ suc k + length acc
  by true is rest = absurd (grind (arith, nat_tests, is, most, one_power k))
  by false is rest = rest ∙ omega arith

long_decimal : (n : ℕ) → 10 ^ 64 ≤ n → length (decimal n) ≡ 64
unfolding digits
long_decimal n h = filled 64 n [] h ∙ omega arith

long_ne : (m : ℤ) (n : List ℕ) → IsWholeNumber m → 64 ≤ length n → signed_decimal m ≡ n → ⊥
long_ne m n whole long e =
    let few = length_signed_le 19 m (mag_small m whole).0 (mag_small m whole).1 in
    omega (arith, few, long, ap length e)

of_short : (m n : ℤ) → IsWholeNumber m → IsShort n → signed_decimal m ≡ signed_decimal n → m ≡ n
of_short m n whole short e = sym (decimal_writes m (whole_short m whole)) ∙ (ap (signed_digits_value 10) e ∙ decimal_writes n short)

-- a whole number's decimal is that of no other number
pub same_number : (m n : ℤ) → IsWholeNumber m → signed_decimal m ≡ signed_decimal n → m ≡ n
same_number m (pos n) whole e = by (nat_lt n (10 ^ 64)) refl where
  by : (b : Bool) → nat_lt n (10 ^ 64) ≡ b → m ≡ pos n
  by true is = of_short m (pos n) whole (ltb-true n (10 ^ 64) is) e
  by false is =
      let long : 10 ^ 64 ≤ n = grind (arith, nat_tests, is) in
      absurd (long_ne m (decimal n) whole (omega (arith, long_decimal n long)) e)
same_number m (negsuc n) whole e = by (nat_lt (suc n) (10 ^ 64)) refl where
  by : (b : Bool) → nat_lt (suc n) (10 ^ 64) ≡ b → m ≡ negsuc n
  by true is = of_short m (negsuc n) whole (ltb-true (suc n) (10 ^ 64) is) e
  by false is =
      let long : 10 ^ 64 ≤ suc n = grind (arith, nat_tests, is) in
      absurd (long_ne m (45 ∷ decimal (suc n)) whole (omega (arith, long_decimal (suc n) long)) e)

-- ---- the number that a text is the decimal of

if_whole_gives : (n : ℤ) → is_whole n ≡ true → if_whole n ≡ Some n
if_whole_gives n h = rw h refl

if_whole_is : (v n : ℤ) → if_whole v ≡ Some n → (v ≡ n) × (is_whole v ≡ true)
if_whole_is v n e = by (is_whole v) refl e where
  by : (b : Bool) → is_whole v ≡ b → (if b then Some v else None) ≡ Some n → (v ≡ n) × (is_whole v ≡ true)
  by true is e = (cc, is)
  by false is e = absurd cc

again : (text : List ℕ) (v n : ℤ) (b : Bool) → bytes_eq (signed_decimal v) text ≡ b → (if b then if_whole v else None) ≡ Some n
    → (text ≡ signed_decimal n) × IsWholeNumber n
again text v n true is e =
    let same = if_whole_is v n e in
    let own : signed_decimal v ≡ text = (bytes_eq-Decides (signed_decimal v) text).0 is in
    (sym own ∙ ap signed_decimal same.0, whole_holds n (ap is_whole (sym same.0) ∙ same.1))
again text v n false is e = absurd cc

pub written_is : (text : List ℕ) (n : ℤ) → written_number text ≡ Some n → (text ≡ signed_decimal n) × IsWholeNumber n
unfolding written_number
written_is text n e =
    again text (signed_digits_value 10 text) n (bytes_eq (signed_decimal (signed_digits_value 10 text)) text) refl e

pub written_gives : (text : List ℕ) (n : ℤ) → text ≡ signed_decimal n → IsWholeNumber n → written_number text ≡ Some n
unfolding written_number
written_gives text n is whole =
    let value : signed_digits_value 10 text ≡ n = ap (signed_digits_value 10) is ∙ decimal_writes n (whole_short n whole) in
    let same : bytes_eq (signed_decimal (signed_digits_value 10 text)) text ≡ true =
    (bytes_eq-Decides (signed_decimal (signed_digits_value 10 text)) text).1 (ap signed_decimal value ∙ sym is) in
    rw same (ap if_whole value ∙ if_whole_gives n (whole_tests n whole))

pub none_written : (text : List ℕ) → ((n : ℤ) → text ≡ signed_decimal n → IsWholeNumber n → ⊥) → written_number text ≡ None
none_written text no_such = by (written_number text) refl where
  by : (o : Option ℤ) → written_number text ≡ o → written_number text ≡ None
  by None is = is
  by (Some n) is = let own = written_is text n is in absurd (no_such n own.0 own.1)

-- ---- what `parse` reads of a text

-- of a whole number's decimal it's the number
reads : {E : Type 0} (bytes : List ℕ) (r : Result ℤ E) (n : ℤ) → IsUtf8 bytes → ParsesSigned w64 10 bytes r → chars bytes ≡ signed_decimal n → IsWholeNumber n
    → r ≡ Ok n
reads bytes r n utf8 parsed is whole =
    let small = (mag_small n whole).1 in
    let own : bytes ≡ signed_decimal n =
    sym (encodes-chars bytes utf8) ∙ (ap encode_utf8_all is ∙ encodes-IsAscii (signed_decimal n) (IsAscii-signed n small)) in
    parse-signed_decimal w64 n bytes r (record { sfits = small }) small own parsed

pub nothing_read : (E : Type 0) (bytes : List ℕ) (e : E) → IsUtf8 bytes → ParsesSigned {E = E} w64 10 bytes (Err e) → None ≡ written_number (chars bytes)
nothing_read E bytes e utf8 parsed =
    sym (none_written (chars bytes) (λ n is whole. let r = reads {E = E} bytes (Err e) n utf8 parsed is whole in absurd (cc)))

pub other_read : (E : Type 0) (bytes : List ℕ) (v : ℤ) → IsUtf8 bytes → ParsesSigned {E = E} w64 10 bytes (Ok v) → (chars bytes ≡ signed_decimal v → ⊥)
    → None ≡ written_number (chars bytes)
other_read E bytes v utf8 parsed other =
    sym (none_written (chars bytes) (λ n is whole.
    let r = reads {E = E} bytes (Ok v) n utf8 parsed is whole in
    let same : v ≡ n = cc in
    other (is ∙ ap signed_decimal (sym same))))

pub own_read : (text : List ℕ) (v : ℤ) → text ≡ signed_decimal v → if_whole v ≡ written_number text
own_read text v same = by (is_whole v) refl where
  by : (b : Bool) → is_whole v ≡ b → (if b then Some v else None) ≡ written_number text
  by true is = sym (written_gives text v same (whole_holds v is))
  by false is =
      sym (none_written text (λ n e whole.
      let equal : n ≡ v = same_number n v whole (sym e ∙ same) in
      let test : is_whole v ≡ true = ap is_whole (sym equal) ∙ whole_tests n whole in
      absurd (cc)))
