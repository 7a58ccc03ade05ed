-- Which texts are none of the words that mean something else.
use Rattle.std.proofs.Common.{◌≡◌, ℕ, ◌<◌, Bool, true, false, ◌&&◌, ◌==◌, nat_le, List, [], ◌∷◌, length, codes, refl, ap, ◌∙◌, arith}
use Rattle.std.proofs.lemmas.Bool.Decides.{nat_tests}
use Rattle.std.specs.Str.{bytes_eq}
use Rattle.yaml_inline.specs.File.{is_empty}
use Rattle.yaml_inline.specs.Scalar.{is_null, is_true, is_false, resolved, number_or_text, whole_of}

and_false : (a : Bool) → (a && false) ≡ false
and_false true = refl
and_false false = refl

-- a longer text isn't the word
other : (w s : List ℕ) → length w < length s → bytes_eq w s ≡ false
other w [] h = absurd (omega arith)
other [] (x ∷ xs) h = refl
other (c ∷ cs) (x ∷ xs) h = ap (λ (b : Bool). c == x && b) (other cs xs (omega arith)) ∙ and_false (c == x)

some : (s : List ℕ) → 5 < length s → is_empty s ≡ false
some [] h = absurd (omega arith)
some (c ∷ cs) h = refl

no_word : (w s : List ℕ) → nat_le (length w) 5 ≡ true → 5 < length s → bytes_eq w s ≡ false
no_word w s short h = other w s (grind (arith, nat_tests))

no_null : (s : List ℕ) → 5 < length s → is_null s ≡ false
no_null s h = rw (some s h, no_word (codes "~") s refl h, no_word (codes "null") s refl h, no_word (codes "Null") s refl h, no_word (codes "NULL") s refl h) refl

no_true : (s : List ℕ) → 5 < length s → is_true s ≡ false
no_true s h = rw (no_word (codes "true") s refl h, no_word (codes "True") s refl h, no_word (codes "TRUE") s refl h) refl

no_false : (s : List ℕ) → 5 < length s → is_false s ≡ false
no_false s h = rw (no_word (codes "false") s refl h, no_word (codes "False") s refl h, no_word (codes "FALSE") s refl h) refl

-- a text of more than five characters is a number or itself
pub long_text : (s : List ℕ) → 5 < length s → resolved s ≡ number_or_text s (whole_of s)
unfolding resolved
long_text s h = rw (no_null s h, no_true s h, no_false s h) refl
