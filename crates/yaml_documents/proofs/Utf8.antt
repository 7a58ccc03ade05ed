-- Bytes and the characters that they are.
use Rattle.std.proofs.Common.{◌≡◌, ℕ, ◌≤◌, inr, List, length, take, refl, sym, ap, ◌∙◌, subst, arith}
use Rattle.std.specs.Str.{IsAscii, IsUtf8, IsValidUpTo, chars}
use Rattle.std.proofs.lemmas.Str.{scalars-chars, encodes-chars, length-le-encodes, chars-IsAscii, IsUtf8-from_ascii}
use Rattle.yaml_tree.specs.Tree.{At}
use Rattle.yaml_documents.specs.Call.{IsText, place_behind, IsUnreadable}

pub text_of_chars : (bytes cs : List ℕ) → IsUtf8 bytes → cs ≡ chars bytes → IsText bytes cs
text_of_chars bytes cs utf8 is =
    subst (λ (xs : List ℕ). IsText bytes xs) (sym is) (record { scalars = scalars-chars bytes utf8; encoded = sym (encodes-chars bytes utf8) })

-- bytes of ASCII are their characters
pub ascii_text : (bytes cs : List ℕ) → IsAscii bytes → cs ≡ bytes → IsText bytes cs
ascii_text bytes cs ascii is = text_of_chars bytes cs (IsUtf8-from_ascii bytes ascii) (is ∙ sym (chars-IsAscii bytes ascii))

-- there are no more characters than bytes
pub text_within : (bytes cs : List ℕ) → IsText bytes cs → length cs ≤ length bytes
text_within bytes cs t = omega (arith, length-le-encodes cs, ap length t.encoded)

pub bad_bytes : (file_bytes n : ℕ) (bytes good front : List ℕ) (p : ℕ × At) → length bytes ≤ file_bytes → IsValidUpTo bytes n → good ≡ take n bytes → IsText good front
    → p ≡ (1, place_behind front) → IsUnreadable file_bytes bytes p
bad_bytes file_bytes n bytes good front p within longest good_is text p_is =
    inr (
      within,
      place_behind front,
      record {
        count = n;
        longest = longest;
        front = front;
        good = subst (λ (xs : List ℕ). IsText xs front) good_is text;
        place = refl;
      },
      p_is,
    )
