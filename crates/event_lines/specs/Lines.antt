-- The lines of bytes, within limits.
use Rattle.std.specs.Prelude.{ℕ, ◌+◌, Bool, true, false, ◌==◌, nat_lt, nat_le, if◌then◌else◌, List, [], ◌∷◌, length, take}
use Rattle.sig_base.specs.declared.faults.LineStep.{LineStep}
use Rattle.sig_base.specs.declared.faults.LineStep.TheVariants.{Line, TooLong, TooMuch}
use Rattle.sig_base.specs.declared.limits.Limits.{Limits}

-- the pieces between the line feeds: the first, and those behind it
abbrev pub pieces : List ℕ → List ℕ × List (List ℕ)
pieces [] = ([], [])
pieces (b ∷ bs) = if b == 10 then ([], (pieces bs).0 ∷ (pieces bs).1) else (b ∷ (pieces bs).0, (pieces bs).1)

-- a line, unless it has too many bytes
abbrev pub line_step : ℕ → ℕ → List ℕ → LineStep
line_step most number line = if nat_le (length line) most then Line number line else TooLong number

-- what comes of the piece that no line feed ends: nothing of it counts where there are too many bytes, and an empty one is
-- no line
abbrev pub last_step : ℕ → Bool → ℕ → List ℕ → List LineStep
last_step most true number piece = TooMuch number ∷ []
last_step most false number [] = []
last_step most false number (b ∷ bs) = line_step most number (b ∷ bs) ∷ []

-- a step for each piece that a line feed ends, and then what comes of the last one
abbrev pub piece_steps : ℕ → Bool → ℕ → List ℕ → List (List ℕ) → List LineStep
piece_steps most over number piece [] = last_step most over number piece
piece_steps most over number piece (next ∷ others) = line_step most number piece ∷ piece_steps most over (number + 1) next others

-- The lines of bytes, numbered from here. Where there are more bytes than `room`, the lines count whose line feed is among
-- the first `room`, and then too much follows.
abbrev pub steps_from : ℕ → ℕ → ℕ → List ℕ → List LineStep
steps_from most room number bytes =
    piece_steps most (nat_lt room (length bytes)) number (pieces (take room bytes)).0 (pieces (take room bytes)).1

-- the lines of an input's bytes within the limits of a run
abbrev pub lines_of : Limits → List ℕ → List LineStep
lines_of limits bytes = steps_from limits.line_bytes limits.events_bytes 1 bytes
