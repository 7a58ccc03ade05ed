use Rattle.std.specs.Vec.{vec_len, vec_capacity}
use Rattle.std.specs.Vec.Iter.{into_iter_items}
use Rattle.indexmap.specs.IndexMap.{spare}
use Rattle.std.proofs.Common.{◌≡◌}
use Rattle.correlation_windows.proofs.Committing.{Going}
use Rattle.correlation_windows.proofs.growth.put_all.Given as goal

abbrev pub invariant-loop-found : goal.invariant-loop-found
invariant-loop-found l =
    (goal.iterator-loop-found).can_next l.found-iterator ×
    (goal.iterator-loop-found).is_finite l.found-iterator
    × Going l.number l.bound l.map.entries (record { spare = spare l.map; reports = vec_len l.reports; capacity = vec_capacity l.reports; before = vec_len l.initial.reports }) l.reports.items (into_iter_items l.found-iterator) l.initial.map.entries l.initial.reports.items (into_iter_items l.initial.found-iterator)
    × (vec_capacity l.reports ≡ vec_capacity l.initial.reports)
