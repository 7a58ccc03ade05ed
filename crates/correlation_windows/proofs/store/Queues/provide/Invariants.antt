use Rattle.std.proofs.Common.{◌≡◌, ◌++◌}
use Rattle.std.specs.Vec.Iter.{into_iter_items}
use Rattle.correlation_windows.specs.Ready.{AllProvided, grouped}
use Rattle.correlation_windows.proofs.store.Queues.provide.Given as goal

abbrev pub invariant-loop-own : goal.invariant-loop-own
invariant-loop-own l =
    (goal.iterator-loop-own).can_next l.own-iterator ×
    (goal.iterator-loop-own).is_finite l.own-iterator
    × (grouped l.founds.items ++ into_iter_items l.own-iterator ≡ l.fn.matches.items)
    × AllProvided l.after l.count l.self l.founds.items
