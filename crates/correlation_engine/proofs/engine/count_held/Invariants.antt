use Rattle.std.proofs.Common.{◌≡◌, ◌+◌, ◌-◌, ◌^◌, ◌≤◌, min, List}
use Rattle.std.specs.Prelude.{drop}
use Rattle.correlation_windows.specs.History.{Taken}
use Rattle.correlation_windows.specs.Kept.{HoldsEach}
use Rattle.correlation_engine.specs.Engines.{bounds_of, queues_of, total_kept}
use Rattle.correlation_engine.proofs.engine.count_held.Given as goal

abbrev pub invariant-loop-watch : goal.invariant-loop-watch
invariant-loop-watch l =
    (l.sum ≤ 2 ^ 64 - 1)
    × ((history : List Taken) → HoldsEach (queues_of l.watches) (bounds_of l.watches) history
    → HoldsEach (queues_of (drop l.watch-index l.watches)) (bounds_of (drop l.watch-index l.watches)) history
    × (min (l.sum + total_kept (bounds_of (drop l.watch-index l.watches)) history) (2 ^ 64 - 1) ≡ min (total_kept (bounds_of l.watches) history) (2 ^ 64 - 1)))
