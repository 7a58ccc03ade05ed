-- The words of modifiers, and what each asks for (Sigma specification 2.0, modifiers).
use Rattle.std.specs.Prelude.{ℕ, Bool, List, [], ◌∷◌, codes, map, if◌then◌else◌, Option, Some, None, is_none}
use Rattle.std.specs.Borrow.{Bor}
use Rattle.std.specs.List.{list_all}
use Rattle.std.specs.Str.{bytes_eq}
use Rattle.sig_base.specs.Texts.{is_ascii}
use Rattle.sig_encode.specs.declared.utf16.Form.TheVariants.{Le, Be, Marked}
use Rattle.modifier_words.specs.declared.modifier.Encoding.TheVariants.{Base64, Base64Offset}
use Rattle.modifier_words.specs.declared.modifier.Flag.TheVariants.{IgnoreCase, MultiLine, DotAll}
use Rattle.modifier_words.specs.declared.modifier.Modifier.{Modifier}
use Rattle.modifier_words.specs.declared.modifier.Modifier.TheVariants.{Position, All, Cased, Windash, Expand, Units, Encoding, Exists, Cidr, Order, Fieldref, Re, Flag}
use Rattle.modifier_words.specs.declared.modifier.Op.TheVariants.{Lt, Lte, Gt, Gte}
use Rattle.modifier_words.specs.declared.modifier.Position.TheVariants.{Around, After, Before}

-- each word, and what it asks for; of what kind a word is, the chains below tell by its modifier alone
abbrev pub modifier_words : List (List ℕ × Modifier)
modifier_words =
    (codes "contains", Position Around)
    ∷ (codes "startswith", Position After)
    ∷ (codes "endswith", Position Before)
    ∷ (codes "all", All)
    ∷ (codes "cased", Cased)
    ∷ (codes "windash", Windash)
    ∷ (codes "expand", Expand)
    ∷ (codes "utf16le", Units Le)
    ∷ (codes "wide", Units Le)
    ∷ (codes "utf16be", Units Be)
    ∷ (codes "utf16", Units Marked)
    ∷ (codes "base64", Encoding Base64)
    ∷ (codes "base64offset", Encoding Base64Offset)
    ∷ (codes "exists", Exists)
    ∷ (codes "cidr", Cidr)
    ∷ (codes "lt", Order Lt)
    ∷ (codes "lte", Order Lte)
    ∷ (codes "gt", Order Gt)
    ∷ (codes "gte", Order Gte)
    ∷ (codes "fieldref", Fieldref)
    ∷ (codes "re", Re)
    ∷ (codes "i", Flag IgnoreCase)
    ∷ (codes "m", Flag MultiLine)
    ∷ (codes "s", Flag DotAll)
    ∷ []

abbrev pub modifier_in : List (List ℕ × Modifier) → List ℕ → Option Modifier
modifier_in [] word = None
modifier_in (row ∷ rows) word = if bytes_eq word row.0 then Some row.1 else modifier_in rows word

-- the modifier that a word names
abbrev pub modifier_of : List ℕ → Option Modifier
modifier_of word = modifier_in modifier_words word

abbrev pub is_unknown : List ℕ → Bool
is_unknown word = is_none (modifier_of word)

-- ---- the code's own table

-- the rows of a table of texts
abbrev pub rows_of : List (Bor (List ℕ) × Modifier) → List (List ℕ × Modifier)
rows_of rows = map (λ row. (row.0.now, row.1)) rows

-- its words are ASCII, so that they are their characters
abbrev pub are_ascii : List (Bor (List ℕ) × Modifier) → Bool
are_ascii rows = list_all (λ row. is_ascii row.0.now) rows
