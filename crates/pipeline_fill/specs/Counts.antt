-- Counting up to a greatest number.
use Rattle.std.specs.Prelude.{ℕ, ◌-◌, ◌^◌, min}

-- numbers up to 2^127 - 1
abbrev pub capped : ℕ → ℕ
capped n = min n (2 ^ 127 - 1)
