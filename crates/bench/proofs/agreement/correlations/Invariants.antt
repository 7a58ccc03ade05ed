use Rattle.std.proofs.Common.{◌≡◌, length}
use Rattle.std.specs.List.{AllByRecursion}
use Rattle.correlation_engine.specs.Limits.{IsWithinLimits}
use Rattle.bench.proofs.agreement.correlations.Given as goal

abbrev pub invariant-loop-number : goal.invariant-loop-number
invariant-loop-number l = AllByRecursion IsWithinLimits l.bounds.items × (length l.bounds.items ≡ l.number)
