-- Whole numbers that are taken.
use Rattle.std.specs.Prelude.{◌-◌, ◌^◌, nat_lt, ℤ, pos, negsuc, Bool}

-- a whole number from -(2^63 - 1) to 2^63 - 1
abbrev pub is_whole : ℤ → Bool
is_whole (pos n) = nat_lt n (2 ^ 63)
is_whole (negsuc n) = nat_lt n (2 ^ 63 - 1)
