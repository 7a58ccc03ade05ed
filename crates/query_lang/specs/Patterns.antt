-- What a text is as a regular expression, by the grammar of the crate `regex` with its default options, and in which values it is
-- found. Texts and values are lists of characters.
use Rattle.std.specs.Prelude.{ℕ, Bool, false, List, nat_le, Option, Some, None, is_some, encode_utf8_all}
use Rattle.regex.specs.Patterns.{Re, default_config, find_str}
use Rattle.regex_syntax.specs.Grammar.{read, Names}
use Rattle.regex_syntax.specs.Brackets.{Nested}

-- what the grammar reads
abbrev pub reading : List ℕ → Option (Nested Re × Names)
reading text = read default_config text

abbrev pub is_shallow : Option (Nested Re × Names) → Bool
is_shallow None = false
is_shallow (Some found) = nat_le found.0.depth default_config.nest_limit

-- the grammar reads a pattern that isn't nested deeper than 250 levels
unfoldable pub is_pattern : List ℕ → Bool
is_pattern text = is_shallow (reading text)

abbrev pub found_in : Option (Nested Re × Names) → List ℕ → Bool
found_in None bytes = false
found_in (Some found) bytes = is_some (find_str found.0.value bytes 0)

-- the grammar reads a pattern, and it has a match somewhere in the value
unfoldable pub finds : List ℕ → List ℕ → Bool
finds text value = found_in (reading text) (encode_utf8_all value)
