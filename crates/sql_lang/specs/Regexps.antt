-- The regular expressions in a text, with their places: each text that stands directly behind a word REGEXP.
use Rattle.std.specs.Prelude.{ℕ, Bool, true, false, if◌then◌else◌, List, [], ◌∷◌, ◌++◌}
use Rattle.std.specs.Str.{chars, is_utf8}
use Rattle.query_tokens.specs.Places.{At}
use Rattle.query_lang.specs.RefusedPlaces.{PatternAt}
use Rattle.sql_lang.specs.Tokens.{Token, Sort, Word, Text, REGEXP, tokens}

abbrev pub is_regexp : Sort → Bool
is_regexp (Word REGEXP) = true
is_regexp s = false

abbrev pub text_at : Sort → At → List PatternAt
text_at (Text v) p = record { place = p; pattern = v } ∷ []
text_at s p = []

-- the flag says that a word REGEXP stands directly before
abbrev pub regexps_from : Bool → List Token → List PatternAt
regexps_from behind [] = []
regexps_from behind (t ∷ ts) = (if behind then text_at t.sort t.place else []) ++ regexps_from (is_regexp t.sort) ts

abbrev pub regexps : List ℕ → List PatternAt
regexps cs = regexps_from false (tokens cs)

-- bytes that are no text have none
abbrev pub byte_regexps : List ℕ → List PatternAt
byte_regexps bytes = if is_utf8 bytes then regexps (chars bytes) else []
