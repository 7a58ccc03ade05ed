-- The loop over the digits of a number, a turn at a time.
use Rattle.std.proofs.Common.{◌≡◌, ℕ, ◌+◌, ◌-◌, ◌*◌, ◌<◌, ◌≤◌, Bool, true, false, cond, ◌&&◌, nat_le, List, [], ◌∷◌, length, get_or, drop, Option, Some, None, refl, sym, ap, ◌∙◌, arith}
use Rattle.std.specs.List.{list_all}
use Rattle.std.proofs.lemmas.List.{drop_more, at_drop_all}
use Rattle.std.proofs.lemmas.Bool.Decides.{nat_tests}
use Rattle.sig_base.specs.Digits.{is_digit, digits_from}
use Rattle.sig_base.proofs.DigitLemmas.{digits_from-le}
use Rattle.yaml_inline.specs.File.{is_empty}
use Rattle.yaml_inline.specs.Scalar.{value_within}

-- the number of digits behind n, if it is at most this large
abbrev pub value_from : ℕ → ℕ → List ℕ → Option ℕ
value_from n most cs = cond (list_all is_digit cs && nat_le (digits_from n cs) most) (Some (digits_from n cs)) None

past : (n most : ℕ) (cs : List ℕ) (b : Bool) → most < n → cond (b && nat_le (digits_from n cs) most) (Some (digits_from n cs)) None ≡ None
past n most cs false h = refl
past n most cs true h =
    let more = digits_from-le n cs in
    let e : nat_le (digits_from n cs) most ≡ false = grind (arith, nat_tests) in
    rw e refl

pub value_past : (n most : ℕ) (cs : List ℕ) → most < n → value_from n most cs ≡ None
value_past n most cs h = past n most cs (list_all is_digit cs) h

pub value_start : (most : ℕ) (cs : List ℕ) → is_empty cs ≡ false → value_within most cs ≡ value_from 0 most cs
unfolding value_within
value_start most [] e = cc
value_start most (c ∷ cs) e = refl

pub value_none : (most : ℕ) (cs : List ℕ) → is_empty cs ≡ true → value_within most cs ≡ None
unfolding value_within
value_none most [] e = refl
value_none most (c ∷ cs) e = cc

pub value_turn : (n most : ℕ) (xs : List ℕ) (i c : ℕ) → i < length xs → c ≡ get_or xs i c → is_digit c ≡ true
    → value_from n most (drop i xs) ≡ value_from (10 * n + (c - 48)) most (drop (i + 1) xs)
value_turn n most xs i c h c_is digit =
    let d : drop i xs ≡ c ∷ drop (i + 1) xs = drop_more xs i c h ∙ ap (λ (x : ℕ). x ∷ drop (i + 1) xs) (sym c_is) in
    ap (value_from n most) d ∙ rw digit refl

pub value_stop : (n most : ℕ) (xs : List ℕ) (i c : ℕ) → i < length xs → c ≡ get_or xs i c → is_digit c ≡ false → value_from n most (drop i xs) ≡ None
value_stop n most xs i c h c_is digit =
    let d : drop i xs ≡ c ∷ drop (i + 1) xs = drop_more xs i c h ∙ ap (λ (x : ℕ). x ∷ drop (i + 1) xs) (sym c_is) in
    ap (value_from n most) d ∙ rw digit refl

pub value_end : (n most : ℕ) (xs : List ℕ) (i : ℕ) → length xs ≤ i → n ≤ most → value_from n most (drop i xs) ≡ Some n
value_end n most xs i h within =
    let e : nat_le n most ≡ true = grind (arith, nat_tests) in
    at_drop_all (value_from n most) xs i h ∙ rw e refl
