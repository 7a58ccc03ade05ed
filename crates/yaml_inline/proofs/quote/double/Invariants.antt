use Rattle.std.proofs.Common.{◌≡◌, ◌≤◌, ◌-◌, length, drop}
use Rattle.yaml_inline.specs.Scalar.{double}
use Rattle.yaml_inline.proofs.Quoting.{moved}
use Rattle.yaml_inline.proofs.quote.double.Given as goal

abbrev pub invariant-loop-at : goal.invariant-loop-at
invariant-loop-at l = (l.at ≤ length l.rest) × (moved l.content l.at (double 0 (drop l.at l.rest)) ≡ double 0 l.rest)

abbrev pub decreases-loop-at : goal.decreases-loop-at
decreases-loop-at l = length l.rest - l.at
