-- A key of a block map, on one line (YAML 1.2, 8.2.2).
use Rattle.std.specs.Prelude.{ℕ, false, ◌&&◌, ◌==◌, if◌then◌else◌, List, [], ◌∷◌, Ok, Err}
use Rattle.std.specs.Str.{bytes_eq}
use Rattle.yaml_inline.specs.File.{Line, begins, blank_or_end, skip_blanks}
use Rattle.yaml_inline.specs.Line.{spot, Stop, refused, starts_plain, plain_front, plain_rest, is_left_out}
use Rattle.yaml_inline.specs.Flow.{Front, quoted, is_quote, merge}

-- a key's text and what follows its colon; no key; or why the reading stops there
pub data Keyed : Type 0 where
  keyed : List ℕ → List ℕ → Keyed
  unkeyed : Keyed
  key_stop : Stop → Keyed

-- what a colon with a blank or the end behind it makes of a text
abbrev pub colon_then : List ℕ → List ℕ → Keyed
colon_then k [] = unkeyed
colon_then k (c ∷ cs) = if c == 58 && blank_or_end cs then keyed k cs else unkeyed

abbrev pub quoted_key : Front (List ℕ) → Keyed
quoted_key (Ok q) = colon_then q.0 (skip_blanks q.1)
quoted_key (Err s) = key_stop s

unfoldable pub key_at : Line → List ℕ → Keyed
key_at l cs =
    if is_left_out cs then key_stop (refused 3 (spot l cs))
    else if is_quote cs then quoted_key (quoted l cs)
    else if starts_plain cs && begins 58 (plain_rest false cs)
    then (if bytes_eq (plain_front false cs) merge then key_stop (refused 3 (spot l cs)) else colon_then (plain_front false cs) (plain_rest false cs))
    else unkeyed
