-- One character of a pattern at a time.
use Rattle.std.specs.Prelude.{ℕ, Bool, true, false, not, ◌||◌, ◌&&◌, ◌==◌, if◌then◌else◌}
use Rattle.sql_check.specs.declared.glob.Bracket.{Bracket}
use Rattle.sql_check.specs.declared.glob.Bracket.TheVariants.{Outside, Opened, Closing}
use Rattle.sql_lang.specs.Meaning as meaning

-- ---- LIKE: the flag says that an escape character stands directly before

-- behind the escape character stands another character than %, _ and itself
abbrev pub is_bad_here : ℕ → Bool → ℕ → Bool
is_bad_here e escaped c = escaped && not (c == 37 || c == 95 || c == e)

abbrev pub escapes : ℕ → Bool → ℕ → Bool
escapes e escaped c = not escaped && c == e

-- ---- GLOB

-- which character stands in the brackets is told apart no longer
abbrev pub bracket_view : Bracket → meaning.Bracket
bracket_view Outside = meaning.Outside
bracket_view Opened = meaning.Opened
bracket_view Closing = meaning.Closing 0

abbrev pub is_bad_bracket_here : Bracket → ℕ → Bool
is_bad_bracket_here Outside c = false
is_bad_bracket_here Opened c = not (c == 42 || c == 63 || c == 91)
is_bad_bracket_here Closing c = not (c == 93)

abbrev pub bracket_after : Bracket → ℕ → Bracket
bracket_after Outside c = if c == 91 then Opened else Outside
bracket_after Opened c = Closing
bracket_after Closing c = Outside

abbrev pub is_inside : Bracket → Bool
is_inside Outside = false
is_inside Opened = true
is_inside Closing = true
