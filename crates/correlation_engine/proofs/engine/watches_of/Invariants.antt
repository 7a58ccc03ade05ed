use Rattle.std.proofs.Common.{◌≡◌, ◌++◌}
use Rattle.std.specs.List.{AllByRecursion}
use Rattle.std.specs.Vec.Iter.{into_iter_items}
use Rattle.correlation_engine.specs.Engines.{bounds_of, IsNew}
use Rattle.correlation_engine.specs.Limits.{IsWithinLimits}
use Rattle.correlation_engine.proofs.engine.watches_of.Given as goal

abbrev pub invariant-loop-bound : goal.invariant-loop-bound
invariant-loop-bound l =
    (goal.iterator-loop-bound).can_next l.bound-iterator ×
    (goal.iterator-loop-bound).is_finite l.bound-iterator
    × (bounds_of l.watches.items ++ into_iter_items l.bound-iterator ≡ l.fn.bounds.items)
    × AllByRecursion IsNew l.watches.items
    × AllByRecursion IsWithinLimits (into_iter_items l.bound-iterator)
