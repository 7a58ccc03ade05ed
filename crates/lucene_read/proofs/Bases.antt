-- What stands before the end of a twin's name.
use Rattle.std.proofs.Common.{ℕ, ◌≡◌, ◌-◌, length, take, subst, refl, sym, ◌∙◌, ap, Bool, true, false, List, ◌++◌}
use Rattle.std.specs.Prelude.{codes, Some, encode_utf8_all}
use Rattle.std.specs.Str.{chars, bytes_eq, IsUtf8}
use Rattle.std.specs.Str.Pattern.{FindsTextSuffix}
use Rattle.std.proofs.lemmas.List.{append_cancel_right}
use Rattle.std.proofs.lemmas.Slice.Eq.{bytes_eq-Decides}
use Rattle.std.proofs.lemmas.Bool.Decides.{same_from_decides, Decides-like}
use Rattle.std.proofs.lemmas.Str.{encodes-append, chars-append, IsUtf8-take}
use Rattle.event_schema.specs.Schemas.{twin}

pub some_base : (name bytes base : List ℕ) (k : ℕ) → chars bytes ≡ name → IsUtf8 bytes → FindsTextSuffix (codes ".cased") bytes (Some k)
    → base ≡ take (length bytes - k) bytes → (text : List ℕ) → bytes_eq text (chars base) ≡ bytes_eq (twin text) name
unfolding chars
some_base name bytes base k is utf8 found cut text =
    let front : take (length bytes - 6) bytes ≡ base = ap (λ (n : ℕ). take (length bytes - n) bytes) (sym found.0) ∙ sym cut in
    let good : IsUtf8 base = subst IsUtf8 front (IsUtf8-take bytes (length bytes - 6) utf8 found.2) in
    let parts : bytes ≡ base ++ codes ".cased" = found.1 ∙ ap (λ (t : List ℕ). t ++ codes ".cased") (sym cut) in
    let whole : name ≡ chars base ++ codes ".cased" = sym is ∙ (ap chars parts ∙ chars-append base (codes ".cased") good) in
    same_from_decides _ _
    (bytes_eq-Decides text (chars base))
    (Decides-like _ (λ same. append_cancel_right text (chars base) (codes ".cased") (same ∙ whole)) (λ same. ap (λ (t : List ℕ). t ++ codes ".cased") same ∙ sym whole) (bytes_eq-Decides (twin text) name))

pub no_base : (name bytes : List ℕ) → bytes ≡ encode_utf8_all name → ((front : List ℕ) → bytes ≡ front ++ codes ".cased" → ⊥) → (text : List ℕ) → false ≡ bytes_eq (twin text) name
unfolding lib.Utf8.encode
no_base name bytes is none text = by (bytes_eq (twin text) name) refl where
  by : (b : Bool) → bytes_eq (twin text) name ≡ b → false ≡ b
  by false e = refl
  by true e =
      let same : twin text ≡ name = (bytes_eq-Decides (twin text) name).0 e in
      absurd (none (encode_utf8_all text) (is ∙ (ap encode_utf8_all (sym same) ∙ encodes-append text (codes ".cased"))))
