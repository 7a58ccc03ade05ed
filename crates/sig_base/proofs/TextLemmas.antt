-- Texts of ASCII are their own bytes; two texts are equal where their characters are.
use Rattle.std.proofs.Common.{◌≡◌, ℕ, ◌<◌, Bool, true, List, [], ◌∷◌, ◌++◌, refl, ap, sym, ◌∙◌, arith, nat_lt, append-nil}
use Rattle.std.specs.Prelude.{encode_utf8_all, encode_utf8, Result, Ok, Err, is_ok, OnOk, if◌then◌else◌}
use Rattle.std.specs.Str.{chars, all_scalars, bytes_eq, IsUtf8}
use Rattle.std.proofs.lemmas.Bool.{and_parts, and_from, ltb-true}
use Rattle.std.proofs.lemmas.Bool.Decides.{same_from_decides, Decides-like}
use Rattle.std.proofs.lemmas.Slice.Eq.{bytes_eq-Decides}
use Rattle.std.proofs.lemmas.Str.{encode_ascii, chars-encodes, encodes-chars, chars-append}
use Rattle.std.proofs.Math.Utf8.{low_scalar, scalar}
use Rattle.sig_base.specs.Texts.{is_ascii}

-- the bytes of a text of ASCII are its characters
pub ascii_encodes : (text : List ℕ) → is_ascii text ≡ true → encode_utf8_all text ≡ text
ascii_encodes [] _ = refl
ascii_encodes (c ∷ cs) ok =
    let parts = and_parts (nat_lt c 128) (is_ascii cs) ok in
    ap (λ bytes. bytes ++ encode_utf8_all cs) (encode_ascii c (ltb-true c 128 parts.0)) ∙ ap (λ bytes. c ∷ bytes) (ascii_encodes cs parts.1)

-- each character of ASCII is a scalar value
pub ascii_scalars : (text : List ℕ) → is_ascii text ≡ true → all_scalars text ≡ true
ascii_scalars [] _ = refl
ascii_scalars (c ∷ cs) ok =
    let parts = and_parts (nat_lt c 128) (is_ascii cs) ok in
    let low : c < 128 = ltb-true c 128 parts.0 in
    and_from _ _ (low_scalar c (omega (arith, low))) (ascii_scalars cs parts.1)

-- the characters of bytes of ASCII are these bytes
pub ascii_chars : (text : List ℕ) → is_ascii text ≡ true → chars text ≡ text
ascii_chars text ok =
    ap chars (sym (ascii_encodes text ok)) ∙ chars-encodes text (ascii_scalars text ok)

-- two texts have the same bytes where they have the same characters
pub bytes_eq-chars : (xs ys : List ℕ) → IsUtf8 xs → IsUtf8 ys → bytes_eq xs ys ≡ bytes_eq (chars xs) (chars ys)
bytes_eq-chars xs ys first second =
    same_from_decides _ _
    (Decides-like _ (λ same. ap chars same) (λ same. sym (encodes-chars xs first) ∙ (ap encode_utf8_all same ∙ encodes-chars ys second)) (bytes_eq-Decides xs ys))
    (bytes_eq-Decides (chars xs) (chars ys))

-- the answer of a comparison of bytes is that of their characters
pub same_texts : (r : Bool) (self own text : List ℕ) → IsUtf8 own → IsUtf8 text → r ≡ bytes_eq own text → chars own ≡ self → r ≡ bytes_eq self (chars text)
same_texts r self own text first second is view =
    is ∙ (bytes_eq-chars own text first second ∙ ap (λ cs. bytes_eq cs (chars text)) view)

-- a character's bytes are one character
pub chars_encode : (c : ℕ) → scalar c ≡ true → chars (encode_utf8 c) ≡ c ∷ []
chars_encode c ok = ap chars (sym (append-nil (encode_utf8 c))) ∙ chars-encodes (c ∷ []) (and_from _ _ ok refl)

pub chars_push : (bs : List ℕ) (c : ℕ) → IsUtf8 bs → scalar c ≡ true → chars (bs ++ encode_utf8 c) ≡ chars bs ++ c ∷ []
chars_push bs c utf8 ok = chars-append bs (encode_utf8 c) utf8 ∙ ap (λ cs. chars bs ++ cs) (chars_encode c ok)

-- what pushing a character's bytes makes of the characters
pub pushed : {E : Type 0} (r : Result (Unit {0}) E) (self old new : List ℕ) (c : ℕ) → IsUtf8 old → scalar c ≡ true → chars old ≡ self → new ≡ (if is_ok r then old ++ encode_utf8 c else old) → OnOk r (chars new ≡ self ++ c ∷ [])
pushed (Ok x) self old new c utf8 ok view is = ap chars is ∙ (chars_push old c utf8 ok ∙ ap (λ cs. cs ++ c ∷ []) view)
pushed (Err e) self old new c utf8 ok view is = tt

-- what adding the bytes of a string makes of the characters
pub joined : {E : Type 0} (r : Result (Unit {0}) E) (self old new more : List ℕ) → IsUtf8 old → chars old ≡ self → new ≡ (if is_ok r then old ++ more else old) → OnOk r (chars new ≡ self ++ chars more)
joined (Ok x) self old new more utf8 view is = ap chars is ∙ (chars-append old more utf8 ∙ ap (λ cs. cs ++ chars more) view)
joined (Err e) self old new more utf8 view is = tt

pub joined_ascii : {E : Type 0} (r : Result (Unit {0}) E) (self old new more : List ℕ) → IsUtf8 old → chars old ≡ self → new ≡ (if is_ok r then old ++ more else old) → is_ascii more ≡ true → OnOk r (chars new ≡ self ++ more)
joined_ascii {E = e} (Ok x) self old new more utf8 view is ascii =
    joined {E = e} (Ok x) self old new more utf8 view is ∙ ap (λ cs. self ++ cs) (ascii_chars more ascii)
joined_ascii (Err e) self old new more utf8 view is ascii = tt
