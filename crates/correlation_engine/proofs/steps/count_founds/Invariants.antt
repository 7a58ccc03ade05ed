use Rattle.std.proofs.Common.{◌≡◌, ◌+◌, ◌-◌, ◌^◌, ◌≤◌, min}
use Rattle.std.specs.Prelude.{drop}
use Rattle.correlation_engine.specs.Steps.{total_founds}
use Rattle.correlation_engine.proofs.steps.count_founds.Given as goal

abbrev pub invariant-loop-founds : goal.invariant-loop-founds
invariant-loop-founds l = (l.sum ≤ 2 ^ 64 - 1) × (min (l.sum + total_founds (drop l.founds-index l.all)) (2 ^ 64 - 1) ≡ min (total_founds l.all) (2 ^ 64 - 1))
