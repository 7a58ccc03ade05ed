-- What stands behind blanks, and where a plain scalar has a character.
use Rattle.std.proofs.Common.{◌≡◌, ℕ, suc, ◌+◌, ◌<◌, ◌≤◌, Bool, true, false, not, ◌&&◌, ◌||◌, ◌==◌, List, [], ◌∷◌, length, refl, ap, ◌∙◌, arith}
use Rattle.std.specs.List.{prefix_len}
use Rattle.std.proofs.lemmas.List.{length-drop}
use Rattle.yaml_inline.specs.File.{is_blank, is_empty, blank_or_end, skip_blanks, carries_nothing, ends_line}
use Rattle.yaml_inline.specs.Line.{is_flow, is_indicator, starts_plain, stops, plain_len, plain_rest}
use Rattle.yaml_inline.specs.Quotes.{IsNext}

skip_blanks-blank : (c : ℕ) (cs : List ℕ) → is_blank c ≡ true → skip_blanks (c ∷ cs) ≡ skip_blanks cs
unfolding skip_blanks
skip_blanks-blank c cs e =
    let n = prefix_len is_blank cs in
    let more : 1 + n ≡ suc n = omega arith in
    rw (e, more) refl

skip_blanks-solid : (c : ℕ) (cs : List ℕ) → is_blank c ≡ false → skip_blanks (c ∷ cs) ≡ c ∷ cs
unfolding skip_blanks
skip_blanks-solid c cs e = rw e refl

-- a blank never stands behind blanks
skip_solid : (cs : List ℕ) → blank_or_end (skip_blanks cs) ≡ is_empty (skip_blanks cs)
unfolding skip_blanks
skip_solid [] = refl
skip_solid (c ∷ cs) = by (is_blank c) refl (skip_solid cs) where
  by : (b : Bool) → is_blank c ≡ b → blank_or_end (skip_blanks cs) ≡ is_empty (skip_blanks cs) → blank_or_end (skip_blanks (c ∷ cs)) ≡ is_empty (skip_blanks (c ∷ cs))
  by true e h = rw (skip_blanks-blank c cs e) h
  by false e h = rw (skip_blanks-solid c cs e) e

-- a text of blanks alone ends its line
ends_blank : (cs : List ℕ) → is_empty (skip_blanks cs) ≡ true → ends_line cs ≡ true
unfolding ends_line carries_nothing
ends_blank [] e = rw e refl
ends_blank (c ∷ cs) e = by (is_blank c) refl where
  by : (b : Bool) → is_blank c ≡ b → ends_line (c ∷ cs) ≡ true
  by true h = rw (h, e) refl
  by false h = let s = ap is_empty (skip_blanks-solid c cs h) in cc

pub next_is : (cs next : List ℕ) → ends_line cs ≡ false → next ≡ skip_blanks cs → length next ≤ length cs → IsNext cs next
next_is cs next e is within = record { unended = e; next_is = is; solid = ap blank_or_end is ∙ (skip_solid cs ∙ by (is_empty (skip_blanks cs)) refl); within = within } where
  by : (b : Bool) → is_empty (skip_blanks cs) ≡ b → is_empty (skip_blanks cs) ≡ false
  by true h = let ended = ends_blank cs h in cc
  by false h = h

flow_indicator : (c : ℕ) → is_flow c ≡ true → is_indicator c ≡ true
flow_indicator c e = rw e refl

sign_not : (x y z e : Bool) → z ≡ true → e ≡ true → not ((x || y || z) && e) ≡ false
sign_not true y z e p q = rw q refl
sign_not false true z e p q = rw q refl
sign_not false false z e p q = rw (p, q) refl

and_left : (a b : Bool) → (a && b) ≡ true → a ≡ true
and_left true b e = refl
and_left false b e = cc

and_right : (a b : Bool) → (a && b) ≡ true → b ≡ true
and_right true b e = e
and_right false b e = cc

no_flow : (c : ℕ) (cs : List ℕ) → starts_plain (c ∷ cs) ≡ true → is_flow c ≡ false
no_flow c cs plain = by (is_flow c) refl where
  by : (b : Bool) → is_flow c ≡ b → is_flow c ≡ false
  by true e = let sign = flow_indicator c e in let free = and_left (not (is_indicator c)) _ plain in cc
  by false e = e

no_colon : (c : ℕ) (cs : List ℕ) → starts_plain (c ∷ cs) ≡ true → (c == 58 && blank_or_end cs) ≡ false
no_colon c cs plain = by (c == 58 && blank_or_end cs) refl where
  by : (b : Bool) → (c == 58 && blank_or_end cs) ≡ b → (c == 58 && blank_or_end cs) ≡ false
  by true e =
      let free = and_right (not (is_indicator c)) _ plain in
      let sign = sign_not (c == 45) (c == 63) (c == 58) (blank_or_end cs) (and_left (c == 58) _ e) (and_right (c == 58) _ e) in
      cc
  by false e = e

stops_none : (in_flow : Bool) (c : ℕ) (cs : List ℕ) → starts_plain (c ∷ cs) ≡ true → is_blank c ≡ false → stops in_flow (c ∷ cs) ≡ false
stops_none true c cs plain solid = rw (no_colon c cs plain, solid, no_flow c cs plain) refl
stops_none false c cs plain solid = rw (no_colon c cs plain, solid) refl

pub plain_rest_shorter : (in_flow : Bool) (cs : List ℕ) → starts_plain cs ≡ true → blank_or_end cs ≡ false → length (plain_rest in_flow cs) < length cs
unfolding plain_rest plain_len
plain_rest_shorter in_flow [] plain solid = cc
plain_rest_shorter in_flow (c ∷ cs) plain solid =
    let e = stops_none in_flow c cs plain solid in
    let n = plain_len in_flow cs in
    rw e (omega (arith, length-drop n cs))
