-- The moment behind which an event's timespan begins.
use Rattle.std.proofs.Common.{◌≡◌, arith}
use Rattle.std.proofs.lemmas.Int.{ints}
use Rattle.std.specs.Prelude.{ℤ, pos, ◌-ℤ◌, ◌≤ℤ◌, ◌<ℤ◌}

pub behind : (a t s : ℤ) → a ≡ t -ℤ s → pos 1 ≤ℤ s → a <ℤ t
behind a t s is some = omega (arith, ints, is, some)

pub same_moment : (t : ℤ) → t ≤ℤ t
same_moment t = omega (arith, ints)
