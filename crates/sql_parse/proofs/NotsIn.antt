-- The words NOT that stand before the place are among those of all levels.
use Rattle.std.proofs.Common.{ℕ, ◌+◌, ◌≤◌, arith}
use Rattle.sql_parse.specs.declared.state.State.{State}
use Rattle.sql_parse.specs.declared.state.State.TheVariants.{Begun, Selected, Starred, FromWord, Tabled, Inside, Ended}
use Rattle.sql_parse.specs.View.{state_view, nots_in, all_nots}

pub nots_in_le : (s : State) → nots_in s ≤ all_nots (state_view s)
nots_in_le (Inside v) = omega arith
nots_in_le Begun = omega arith
nots_in_le Selected = omega arith
nots_in_le Starred = omega arith
nots_in_le FromWord = omega arith
nots_in_le (Tabled v) = omega arith
nots_in_le (Ended v o) = omega arith
