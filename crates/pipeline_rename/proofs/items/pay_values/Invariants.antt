use Rattle.std.proofs.Common.{◌≡◌, ◌+◌, length, drop}
use Rattle.pipeline_limits.specs.Sizes.{total}
use Rattle.pipeline_rename.proofs.items.pay_values.Given as goal

abbrev pub invariant-loop-tests : goal.invariant-loop-tests
invariant-loop-tests l = l.left + total length l.values ≡ l.fn.left + total length (drop l.tests-index l.values)
