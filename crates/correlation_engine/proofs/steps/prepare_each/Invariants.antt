use Rattle.std.proofs.Common.{◌≡◌, length}
use Rattle.std.specs.List.{AllByRecursion}
use Rattle.correlation_engine.specs.Arrivals.{taken}
use Rattle.correlation_engine.specs.Steps.{IsTimely, IsGrown, ArePrepared}
use Rattle.correlation_engine.proofs.Walking.{FirstTo}
use Rattle.correlation_engine.proofs.steps.prepare_each.Given as goal

abbrev pub invariant-loop-place : goal.invariant-loop-place
invariant-loop-place l =
    FirstTo IsGrown l.place l.fn.watches.items l.watches.items
    × AllByRecursion (IsTimely l.arrival.moment) l.watches.items
    × ArePrepared (taken l.arrival) l.watches.items l.all.items
    × (length l.all.items ≡ l.place)
