-- The tests that are written, of fields by their names.
use Rattle.std.specs.Prelude.{ℕ, ℤ, true, false, List, codes, Some}
use Rattle.std.specs.Fmt.{signed_decimal}
use Rattle.sql_lang.specs.Tokens.{Op, Eq}
use Rattle.sql_lang.specs.Grammar.{Collate, Unsaid, a_text, a_number, a_name, a_literal, Leaf, constant, is_null, compares, like, glob}

-- "field" IS NOT NULL, and "field" IS NULL
abbrev pub has_value : List ℕ → Leaf
has_value field = is_null field true

abbrev pub has_no_value : List ℕ → Leaf
has_no_value field = is_null field false

-- 0
abbrev pub never : Leaf
never = constant false

-- "field" = 'value', and with COLLATE
abbrev pub equals_text : List ℕ → List ℕ → Collate → Leaf
equals_text field value c = compares field Unsaid Eq (a_literal (a_text value)) c

-- "field" = n, "field" < n and the others
abbrev pub compares_number : List ℕ → Op → ℤ → Leaf
compares_number field op z = compares field Unsaid op (a_literal (a_number (signed_decimal z))) Unsaid

-- "field" = "other", and with COLLATE
abbrev pub equals_field : List ℕ → List ℕ → Collate → Leaf
equals_field field other c = compares field Unsaid Eq (a_name other) c

-- "field" LIKE 'pattern' ESCAPE '\'
abbrev pub fits_like : List ℕ → List ℕ → Leaf
fits_like field pattern = like field false pattern (Some (codes "\\"))

-- "field" GLOB 'pattern'
abbrev pub fits_glob : List ℕ → List ℕ → Leaf
fits_glob field pattern = glob field false pattern
