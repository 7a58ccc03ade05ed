-- How far the days of the calendar are from 1970.
use Rattle.std.specs.Prelude.{◌-◌, ◌^◌, ℤ, pos, negsuc, ◌≤ℤ◌}

-- from -2^98 to 2^98 nanoseconds
abbrev pub IsNear : ℤ → Type 0
IsNear n = (negsuc (2 ^ 98 - 1) ≤ℤ n) × (n ≤ℤ pos (2 ^ 98))
