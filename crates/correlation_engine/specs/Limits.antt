-- What holds of each correlation that was bound to rules and fields.
use Rattle.std.specs.Prelude.{◌≤◌, ◌^◌, pos, ◌≤ℤ◌, length}
use Rattle.correlation_windows.specs.declared.bound.Bound.{Bound}

-- at most 64 rules are listed, and the timespan is from 1 to 2^100 nanoseconds
pub record IsWithinLimits (b : Bound) : Type 0 where
  pub rules : length b.rules ≤ 64
  pub positive : pos 1 ≤ℤ b.span
  pub span : b.span ≤ℤ pos (2 ^ 100)
