-- A text has U+0000 exactly where its bytes have a zero.
use Rattle.std.proofs.Common.{ℕ, zero, suc, ◌≡◌, refl, sym, ◌∙◌, ap, Bool, true, false, List, [], ◌∷◌, get_or, arith, nat_lt, append-nil, not}
use Rattle.std.specs.Prelude.{encode_utf8, encode_utf8_all, ◌==◌, ◌&&◌, ◌||◌}
use Rattle.std.specs.List.{list_any, list_all}
use Rattle.std.specs.Str.{chars, IsUtf8}
use Rattle.std.proofs.lemmas.Bool.{eqb-true, lt-ltb, not-true, not-false}
use Rattle.std.proofs.lemmas.List.{get_or_default}
use Rattle.std.proofs.lemmas.List.Folds.{list_any-append, Any-from_list_any}
use Rattle.std.proofs.lemmas.Str.{encode_ascii, encodes-chars, inside_one}

abbrev pub has_zero : List ℕ → Bool
has_zero bs = list_any (λ b. b == 0) bs

zero_inside : (c : ℕ) → has_zero (encode_utf8 (suc c)) ≡ true → ⊥
zero_inside c is =
    let some = Any-from_list_any (λ b. b == 0) (encode_utf8 (suc c)) is in
    let nul : get_or (encode_utf8 (suc c)) some.0 0 ≡ 0 = get_or_default (encode_utf8 (suc c)) some.0 0 some.1 some.2 ∙ (some.3 ∙ eqb-true some.1 0 some.4) in
    let same : suc c ≡ get_or (encode_utf8 (suc c)) some.0 0 =
    inside_one (suc c) [] (encode_utf8 (suc c)) some.0 (sym (append-nil (encode_utf8 (suc c)))) some.2 (omega (arith, nul)) in
    let none : suc c ≡ 0 = same ∙ nul in
    omega (arith, none)

zero_of : (c : ℕ) → has_zero (encode_utf8 c) ≡ not (nat_lt 0 c)
zero_of zero = ap has_zero (encode_ascii 0 (omega arith))
zero_of (suc c) = by (has_zero (encode_utf8 (suc c))) refl ∙ sym (ap not (lt-ltb 0 (suc c) (omega arith))) where
  by : (so : Bool) → has_zero (encode_utf8 (suc c)) ≡ so → has_zero (encode_utf8 (suc c)) ≡ false
  by false is = is
  by true is = absurd (zero_inside c is)

nor : (a b : Bool) → (not a || not b) ≡ not (a && b)
nor true true = refl
nor true false = refl
nor false true = refl
nor false false = refl

zeros_of : (cs : List ℕ) → has_zero (encode_utf8_all cs) ≡ not (list_all (λ c. nat_lt 0 c) cs)
zeros_of [] = refl
zeros_of (c ∷ cs) =
    list_any-append (λ b. b == 0) (encode_utf8 c) (encode_utf8_all cs)
    ∙ (ap (λ (b : Bool). b || has_zero (encode_utf8_all cs)) (zero_of c)
    ∙ (ap (λ (b : Bool). not (nat_lt 0 c) || b) (zeros_of cs) ∙ nor (nat_lt 0 c) (list_all (λ c. nat_lt 0 c) cs)))

pub has_nul : (bs : List ℕ) → IsUtf8 bs → has_zero bs ≡ not (list_all (λ c. nat_lt 0 c) (chars bs))
has_nul bs utf8 = ap has_zero (sym (encodes-chars bs utf8)) ∙ zeros_of (chars bs)

-- a text of which a test of the bytes found that it has, or hasn't
pub nul_there : (bs : List ℕ) → IsUtf8 bs → has_zero bs ≡ true → list_all (λ c. nat_lt 0 c) (chars bs) ≡ false
nul_there bs utf8 is = not-true (list_all (λ c. nat_lt 0 c) (chars bs)) (sym (has_nul bs utf8) ∙ is)

pub nul_absent : (bs : List ℕ) → IsUtf8 bs → has_zero bs ≡ false → list_all (λ c. nat_lt 0 c) (chars bs) ≡ true
nul_absent bs utf8 is = not-false (list_all (λ c. nat_lt 0 c) (chars bs)) (sym (has_nul bs utf8) ∙ is)
