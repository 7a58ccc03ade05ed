use Rattle.std.proofs.Common.{ℕ, ◌≡◌, ◌<◌, ◌+◌, List, ◌∷◌, ◌++◌, length, length-append, arith, sym, ◌∙◌, ap}
use Rattle.std.specs.Str.{chars, IsUtf8}
use Rattle.std.specs.Char.{encode_utf8}
use Rattle.std.proofs.lemmas.Str.{chars_past_char, length-encode, len_utf8_bounds}
use Rattle.sig_base.proofs.characters.first_char.Goals as goal

-- a text that begins with the bytes of a character
front_of : (bytes rest after : List ℕ) (c : ℕ) → IsUtf8 bytes → bytes ≡ encode_utf8 c ++ after → rest ≡ after
    → (chars bytes ≡ c ∷ chars rest) × (length rest < length bytes)
front_of bytes rest after c text shape same =
    let bounds : _ = len_utf8_bounds c in
    let width : _ = length-encode c in
    let whole : length bytes ≡ length (encode_utf8 c) + length after = ap length shape ∙ length-append (encode_utf8 c) after in
    let rests : length rest ≡ length after = ap length same in
    (chars_past_char bytes after c text shape ∙ ap (λ (t : List ℕ). c ∷ chars t) (sym same), omega (arith, bounds.0))

pub returns : goal.returns
returns c = front_of _ _ _ _ c.utf8.text (sym c.chars-rest.ensures.rest ∙ c.in-Some.ensures.steps.0) c.as_str.ensures
