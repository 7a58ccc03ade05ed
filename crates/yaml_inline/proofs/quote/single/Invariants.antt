use Rattle.std.proofs.Common.{◌≡◌, ◌≤◌, ◌-◌, length, drop}
use Rattle.yaml_inline.specs.Scalar.{single}
use Rattle.yaml_inline.proofs.Quoting.{moved}
use Rattle.yaml_inline.proofs.quote.single.Given as goal

abbrev pub invariant-loop-at : goal.invariant-loop-at
invariant-loop-at l = (l.at ≤ length l.rest) × (moved l.content l.at (single (drop l.at l.rest)) ≡ single l.rest)

abbrev pub decreases-loop-at : goal.decreases-loop-at
decreases-loop-at l = length l.rest - l.at
