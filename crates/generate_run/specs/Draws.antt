-- Numbers that are drawn, each from the state before it: a linear congruence modulo 2^32, of which the upper 16 bits are given.
use Rattle.std.specs.Prelude.{ℕ, zero, suc, ◌+◌, ◌*◌, ◌/◌, ◌%◌, ◌^◌}

-- the state after a draw
abbrev pub next : ℕ → ℕ
next x = (1664525 * x + 1013904223) % 2 ^ 32

-- what the first, the second and the third draw from a state give
abbrev pub first_draw : ℕ → ℕ
first_draw x = next x / 65536

abbrev pub second_draw : ℕ → ℕ
second_draw x = first_draw (next x)

abbrev pub third_draw : ℕ → ℕ
third_draw x = second_draw (next x)

-- the state after three draws
abbrev pub after_three : ℕ → ℕ
after_three x = next (next (next x))

-- the state after so many events, of three draws each
abbrev pub after_events : ℕ → ℕ → ℕ
after_events x zero = x
after_events x (suc count) = after_events (after_three x) count
