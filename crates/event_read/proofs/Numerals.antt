-- Canonical decimals are numerals, and what doesn't fit 64 bits is out of range.
use Rattle.std.proofs.Common.{◌≡◌, ℕ, ◌-◌, ◌≤◌, ◌^◌, Bool, true, false, List, [], ◌∷◌, refl, sym, ap, ◌∙◌, subst, arith, nat_lt, ℤ, pos, negsuc, FitsSigned, w64, Err}
use Rattle.std.specs.Prelude.{nat_le, ◌==◌, ◌&&◌, if◌then◌else◌}
use Rattle.std.specs.List.{list_all}
use Rattle.std.specs.Str.Parse.{AllDigits, IsNumeral, without_leading_sign, signed_digits_value}
use Rattle.std.proofs.lemmas.Bool.{false≢true, and_parts, and_from, le-leb, eqb-true, leb-true, ltb-true}
use Rattle.std.proofs.lemmas.Str.{digit_value_digit}
use Rattle.std.proofs.lemmas.Int.{fits_signed_from_abs}
use Rattle.sig_base.specs.Digits.{is_digit, is_positive}
use Rattle.event_read.specs.Answers.{Answers}
use Rattle.sig_base.specs.Judged.{refusal}
use Rattle.event_read.specs.Takes.{is_whole, is_decimal, whole_of_text}
use Rattle.sig_base.specs.declared.refusal.Fault.{Fault}
use Rattle.sig_base.specs.declared.refusal.Fault.TheVariants.{Refused}
use Rattle.sig_base.specs.declared.refusal.Place.{Place}

digit_below : (c : ℕ) → is_digit c ≡ true → AllDigits 10 (c ∷ [])
digit_below c e =
    let parts = and_parts (nat_le 48 c) (nat_le c 57) e in
    let low : 48 ≤ c = leb-true 48 c parts.0 in
    let high : c ≤ 57 = leb-true c 57 parts.1 in
    (omega (arith, digit_value_digit c (low, high), high), tt)

pub digits_below : (ds : List ℕ) → list_all is_digit ds ≡ true → AllDigits 10 ds
digits_below [] e = tt
digits_below (d ∷ ds) e =
    let parts = and_parts (is_digit d) (list_all is_digit ds) e in
    ((digit_below d parts.0).0, digits_below ds parts.1)

-- a digit isn't a sign
not_sign : (c sign : ℕ) → is_digit c ≡ true → is_digit sign ≡ false → (c == sign) ≡ false
not_sign c sign e other = by (c == sign) refl where
  by : (b : Bool) → (c == sign) ≡ b → (c == sign) ≡ false
  by false is = is
  by true is = absurd (false≢true (sym other ∙ (ap is_digit (sym (eqb-true c sign is)) ∙ e)))

unsigned : (c : ℕ) (cs : List ℕ) → is_digit c ≡ true → without_leading_sign (c ∷ cs) ≡ c ∷ cs
unsigned c cs e = rw (not_sign c 45 e refl) (rw (not_sign c 43 e refl) refl)

positive_digit : (d : ℕ) (ds : List ℕ) → is_positive (d ∷ ds) ≡ true → (is_digit d ≡ true) × (list_all is_digit ds ≡ true)
positive_digit d ds e =
    let parts = and_parts (nat_le 49 d && nat_le d 57) (list_all is_digit ds) e in
    let bounds = and_parts (nat_le 49 d) (nat_le d 57) parts.0 in
    let low : 49 ≤ d = leb-true 49 d bounds.0 in
    (and_from (nat_le 48 d) (nat_le d 57) (le-leb 48 d (omega (arith, low))) bounds.1, parts.1)

digits_numeral : (d : ℕ) (ds : List ℕ) → is_positive (d ∷ ds) ≡ true → IsNumeral 10 (d ∷ ds)
digits_numeral d ds e =
    let digits = positive_digit d ds e in
    (omega arith, ((digit_below d digits.0).0, digits_below ds digits.1))

pub decimal_numeral : (text : List ℕ) → is_decimal text ≡ true → IsNumeral 10 (without_leading_sign text)
decimal_numeral [] e = absurd cc
decimal_numeral (c ∷ []) e = subst (IsNumeral 10) (sym (unsigned c [] e)) (omega arith, digit_below c e)
decimal_numeral (c ∷ d ∷ ds) e = by (c == 45) refl e where
  by : (b : Bool) → (c == 45) ≡ b → (if b then is_positive (d ∷ ds) else is_positive (c ∷ d ∷ ds)) ≡ true → IsNumeral 10 (without_leading_sign (c ∷ d ∷ ds))
  by true is e = subst (IsNumeral 10) (sym (minus is)) (digits_numeral d ds e) where
    minus : (c == 45) ≡ true → without_leading_sign (c ∷ d ∷ ds) ≡ d ∷ ds
    minus is = rw is refl
  by false is e =
      let digits = positive_digit c (d ∷ ds) e in
      subst (IsNumeral 10) (sym (unsigned c (d ∷ ds) digits.0)) (digits_numeral c (d ∷ ds) e)

-- a number that doesn't fit is out of range
pub unfit : (z : ℤ) → (FitsSigned w64 z → ⊥) → is_whole z ≡ false
unfit (pos n) h = by (nat_lt n (2 ^ 63)) refl where
  by : (b : Bool) → nat_lt n (2 ^ 63) ≡ b → nat_lt n (2 ^ 63) ≡ false
  by false is = is
  by true is = absurd (h (fits_signed_from_abs w64 (pos n) (ltb-true n (2 ^ 63) is)))
unfit (negsuc n) h = by (nat_lt n (2 ^ 63 - 1)) refl where
  by : (b : Bool) → nat_lt n (2 ^ 63 - 1) ≡ b → nat_lt n (2 ^ 63 - 1) ≡ false
  by false is = is
  by true is = absurd (h (fits_signed_from_abs w64 (negsuc n) (omega (arith, ltb-true n (2 ^ 63 - 1) is))))

pub out_of_range : (place : Place) (text : List ℕ) (e : Fault) → is_decimal text ≡ true → (IsNumeral 10 (without_leading_sign text) × FitsSigned w64 (signed_digits_value 10 text) → ⊥)
    → e ≡ Refused (refusal 27 place) → Answers place (whole_of_text text) (Err e)
out_of_range place text e is never refused =
    let out : is_whole (signed_digits_value 10 text) ≡ false = unfit (signed_digits_value 10 text) (λ fits. never (decimal_numeral text is, fits)) in
    rw is (rw out (rw refused refl))
