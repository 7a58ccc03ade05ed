-- What a line is made of: indentation, keys and plain scalars, places and stops.
use Rattle.std.specs.Prelude.{ℕ, suc, ◌-◌, Bool, true, false, not, ◌&&◌, ◌||◌, ◌==◌, if◌then◌else◌, List, [], ◌∷◌, length, take, drop, Option, Some, None, Result, Ok, Err}
use Rattle.std.specs.List.{prefix_len}
use Rattle.yaml_tree.specs.Tree.{At}
use Rattle.yaml_inline.specs.File.{Line, is_blank, is_space, is_empty, begins, blank_or_end, skip_blanks, carries_nothing, is_marker}

-- the place of the character with n characters of the line before it
abbrev pub at : Line → ℕ → At
at l n = record { line = l.number; column = suc n }

-- the place of what is left of a line
abbrev pub spot : Line → List ℕ → At
spot l cs = at l (length l.text - length cs)

-- Why the reading stops on a line: for this code at this place; or since something does not close on
-- the line. Then the openings stand there, outermost first, each with its closing character.
pub data Stop : Type 0 where
  refused : ℕ → At → Stop
  unclosed : ℕ → List (At × ℕ) → Stop

abbrev pub syntax : Line → Stop
syntax l = refused 4 (at l 0)

abbrev pub Read : Type 0 → Type 0
Read A = Result A Stop

infixl 10 ◌>>=◌
abbrev pub ◌>>=◌ : {A B : Type 0} → Read A → (A → Read B) → Read B
(Ok x) >>= f = f x
(Err e) >>= f = Err e

-- ---- indentation

unfoldable pub indentation : List ℕ → ℕ
indentation cs = prefix_len is_space cs

unfoldable pub indent : Line → ℕ
indent l = indentation l.text

unfoldable pub body : Line → List ℕ
body l = drop (indentation l.text) l.text

-- a comment line (YAML 1.2, 6.6): blanks, and perhaps a comment
unfoldable pub is_comment : Line → Bool
is_comment l = carries_nothing l.text

-- blanks alone, without a comment
unfoldable pub is_empty_line : Line → Bool
is_empty_line l = is_empty (skip_blanks l.text)

-- what a line with content, outside block scalars, is refused for whatever else it has: a marker at its start, a tab in its indentation
unfoldable pub bad_start : Line → Option Stop
bad_start l =
    if is_marker l then Some (refused 3 (at l 0))
    else if begins 9 (body l) then Some (refused 8 (at l (indent l)))
    else None

-- the stop of a line where nothing more may stand
unfoldable pub unexpected : Line → Stop
unexpected l = stop_or (bad_start l) (syntax l) where
  stop_or : Option Stop → Stop → Stop
  stop_or None s = s
  stop_or (Some t) s = t

-- ---- plain scalars

-- , [ ] { }
abbrev pub is_flow : ℕ → Bool
is_flow c = c == 44 || c == 91 || c == 93 || c == 123 || c == 125

-- Inside a flow collection or outside, a plain scalar ends here.
abbrev pub stops : Bool → List ℕ → Bool
stops in_flow [] = true
stops in_flow (c ∷ cs) = ((c == 58 && blank_or_end cs) || (is_blank c && begins 35 cs)) || (in_flow && is_flow c)

unfoldable pub plain_len : Bool → List ℕ → ℕ
plain_len in_flow [] = 0
plain_len in_flow (c ∷ cs) = if stops in_flow (c ∷ cs) then 0 else suc (plain_len in_flow cs)

-- without blanks at the end
unfoldable pub trimmed : List ℕ → List ℕ
trimmed [] = []
trimmed (c ∷ cs) = if is_blank c && is_empty (trimmed cs) then [] else c ∷ trimmed cs

-- no plain scalar begins with one of , [ ] { } # & * ! | > ' " % @ `
abbrev pub is_indicator : ℕ → Bool
is_indicator c = is_flow c || c == 35 || c == 38 || c == 42 || c == 33
    || c == 124 || c == 62 || c == 39 || c == 34 || c == 37 || c == 64 || c == 96

-- A plain scalar begins here. `-`, `?` and `:` begin one only before a character that is no blank.
abbrev pub starts_plain : List ℕ → Bool
starts_plain [] = false
starts_plain (c ∷ cs) = not (is_indicator c) && not ((c == 45 || c == 63 || c == 58) && blank_or_end cs)

unfoldable pub plain_front : Bool → List ℕ → List ℕ
plain_front in_flow cs = trimmed (take (plain_len in_flow cs) cs)

unfoldable pub plain_rest : Bool → List ℕ → List ℕ
plain_rest in_flow cs = drop (plain_len in_flow cs) cs

-- `-` and a blank, or the line's end
abbrev pub is_dash : List ℕ → Bool
is_dash [] = false
is_dash (c ∷ cs) = c == 45 && blank_or_end cs

-- forms that are left out at a node or a key: `&`, `*`, `!`, and `?` with a blank
abbrev pub is_left_out : List ℕ → Bool
is_left_out [] = false
is_left_out (c ∷ cs) = (c == 38 || c == 42 || c == 33) || (c == 63 && not (is_empty cs) && blank_or_end cs)
