-- The kinds of modifiers.
use Rattle.std.specs.Prelude.{Bool, true, false, List, [], ◌∷◌, ◌||◌, Option, Some, None}
use Rattle.std.specs.List.{list_any}
use Rattle.modifier_words.specs.declared.modifier.Flag.TheVariants.{IgnoreCase, MultiLine, DotAll}
use Rattle.modifier_words.specs.declared.modifier.Modifier.{Modifier}
use Rattle.modifier_words.specs.declared.modifier.Modifier.TheVariants.{Position, All, Cased, Windash, Expand, Units, Encoding, Exists, Cidr, Order, Fieldref, Re, Flag}
use Rattle.modifier_words.specs.declared.modifier.Op.{Op}

-- says where in a text the pattern is looked for
abbrev pub is_position : Modifier → Bool
is_position (Position position) = true
is_position _ = false

-- asks that all values are satisfied
abbrev pub is_all : Modifier → Bool
is_all All = true
is_all _ = false

-- compares with regard to case
abbrev pub is_cased : Modifier → Bool
is_cased Cased = true
is_cased _ = false

-- takes any dash before a word
abbrev pub is_windash : Modifier → Bool
is_windash Windash = true
is_windash _ = false

-- takes `%name%` in a text for a placeholder
abbrev pub is_expand : Modifier → Bool
is_expand Expand = true
is_expand _ = false

-- says in which units of 16 bits a text is encoded
abbrev pub is_units : Modifier → Bool
is_units (Units form) = true
is_units _ = false

-- encodes the text
abbrev pub is_encoding : Modifier → Bool
is_encoding (Encoding encoding) = true
is_encoding _ = false

-- asks whether there is a value
abbrev pub is_exists : Modifier → Bool
is_exists Exists = true
is_exists _ = false

-- asks for an address of a network
abbrev pub is_cidr : Modifier → Bool
is_cidr Cidr = true
is_cidr _ = false

-- how the value has to stand to a number, if the modifier asks for that
abbrev pub order_in : Modifier → Option Op
order_in (Order op) = Some op
order_in _ = None

-- asks for the text of another field
abbrev pub is_fieldref : Modifier → Bool
is_fieldref Fieldref = true
is_fieldref _ = false

-- searches for a regular expression
abbrev pub is_re : Modifier → Bool
is_re Re = true
is_re _ = false

-- makes letters match in either case (flag `i`)
abbrev pub is_case_flag : Modifier → Bool
is_case_flag (Flag IgnoreCase) = true
is_case_flag _ = false

-- makes `^` and `$` match at the ends of lines (flag `m`)
abbrev pub is_line_flag : Modifier → Bool
is_line_flag (Flag MultiLine) = true
is_line_flag _ = false

-- makes `.` match a line feed too (flag `s`)
abbrev pub is_dot_flag : Modifier → Bool
is_dot_flag (Flag DotAll) = true
is_dot_flag _ = false

-- the kinds that stand behind `re`, each at most once
abbrev pub expression_kinds : List (Modifier → Bool)
expression_kinds = is_case_flag ∷ is_line_flag ∷ is_dot_flag ∷ is_all ∷ []

-- stands behind `re`: a flag, or `all`
abbrev pub is_expression_word : Modifier → Bool
is_expression_word modifier = list_any (λ is_kind. is_kind modifier) expression_kinds

-- the kinds of which a text chain has at most one modifier each
abbrev pub text_kinds : List (Modifier → Bool)
text_kinds = is_position ∷ is_all ∷ is_cased ∷ is_windash ∷ is_expand ∷ is_encoding ∷ []

-- the kinds that no encoding stands together with
abbrev pub unencoded_kinds : List (Modifier → Bool)
unencoded_kinds = is_windash ∷ is_expand ∷ []

-- stands in text chains: those kinds, and the units of an encoding
abbrev pub is_text_word : Modifier → Bool
is_text_word modifier = list_any (λ is_kind. is_kind modifier) text_kinds || is_units modifier
