-- The patterns that a text stands for where its chain encodes it (Sigma specification 2.0, modifiers).
use Rattle.std.specs.Prelude.{ℕ, ◌≡◌, List, [], ◌∷◌, map, Option, Some, None, encode_utf8_all}
use Rattle.modifier_words.specs.declared.modifier.Encoding.{Encoding}
use Rattle.modifier_words.specs.declared.modifier.Encoding.TheVariants.{Base64, Base64Offset}
use Rattle.modifier_words.specs.declared.modifier.Modifier.{Modifier}
use Rattle.modifier_words.specs.declared.modifier.Modifier.TheVariants as modifiers
use Rattle.sig_encode.specs.Base64.{IsBase64}
use Rattle.sig_encode.specs.Pieces.{ArePieces}
use Rattle.sig_encode.specs.Utf16.{utf16_of}
use Rattle.sig_encode.specs.declared.utf16.Form.{Form}
use Rattle.sig_strings.specs.Edits.{plain_text}
use Rattle.sig_strings.specs.declared.part.Part.{Part}
use Rattle.sig_strings.specs.declared.part.Part.TheVariants.{Char}

-- the units that a chain encodes texts in, if it says them
abbrev pub units_of : List Modifier → Option Form
units_of [] = None
units_of (modifiers.Units form ∷ ms) = Some form
units_of (_ ∷ ms) = units_of ms

-- what a chain encodes texts as, if it does
abbrev pub encoding_of : List Modifier → Option Encoding
encoding_of [] = None
encoding_of (modifiers.Encoding encoding ∷ ms) = Some encoding
encoding_of (_ ∷ ms) = encoding_of ms

-- a text's bytes: in the units that are said, else in UTF-8
abbrev pub bytes_in : Option Form → List ℕ → List ℕ
bytes_in None text = encode_utf8_all text
bytes_in (Some form) text = utf16_of form text

-- an encoding's texts: one, or the three pieces
abbrev pub AreTexts : Encoding → List ℕ → List (List ℕ) → Type 0
AreTexts Base64 bytes texts = (text : List ℕ) × IsBase64 bytes text × (texts ≡ text ∷ [])
AreTexts Base64Offset bytes texts = ArePieces bytes texts

-- how many bytes an encoding takes at least
abbrev pub least_bytes : Encoding → ℕ
least_bytes Base64 = 0
least_bytes Base64Offset = 2

-- the pattern of a text's characters, each as itself
abbrev pub as_pattern : List ℕ → List Part
as_pattern text = map Char text

-- the patterns of an encoding's texts
abbrev pub AreEncoded : Encoding → List ℕ → List (List Part) → Type 0
AreEncoded encoding bytes patterns = (texts : List (List ℕ)) × AreTexts encoding bytes texts × (patterns ≡ map as_pattern texts)

-- the patterns that a pattern stands for: itself alone, or those of its characters as they're encoded
abbrev pub AreAlternatives : Option Encoding → Option Form → List Part → List (List Part) → Type 0
AreAlternatives None units parts patterns = patterns ≡ parts ∷ []
AreAlternatives (Some encoding) units parts patterns = AreEncoded encoding (bytes_in units (plain_text parts)) patterns
