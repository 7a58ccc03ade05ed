use Rattle.std.proofs.Common.{◌≡◌, ℕ, ◌≤◌, List, length, take}
use Rattle.indexmap.specs.IndexMap.{spare}
use Rattle.correlation_windows.specs.Heaps.{IsOrderly}
use Rattle.correlation_windows.specs.Queues.{held, AllFor}
use Rattle.correlation_windows.specs.Ready.{AllPlaced}
use Rattle.correlation_windows.specs.declared.bound.CorrelationKind.{CorrelationKind}
use Rattle.correlation_windows.proofs.growth.make_places_for_all.Given as goal

abbrev pub invariant-loop-found : goal.invariant-loop-found
invariant-loop-found l =
    IsOrderly l.map.entries
    × ((g : List (List ℕ)) → held l.map.entries g ≡ held l.initial.map.entries g)
    × (length l.founds ≤ spare l.map)
    × AllPlaced (length l.founds) l.map.entries (take l.found-index l.founds)
    × ((kind : CorrelationKind) (rules : ℕ) → AllFor kind rules l.initial.map.entries → AllFor kind rules l.map.entries)
