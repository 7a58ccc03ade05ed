use Rattle.std.proofs.Common.{◌≡◌, ◌++◌, filter}
use Rattle.std.specs.Vec.Iter.{into_iter_items}
use Rattle.pipeline_edit.specs.Dropped.{stays}
use Rattle.pipeline_edit.proofs.dropped_names.keep_names.Given as goal

abbrev pub invariant-loop-name : goal.invariant-loop-name
invariant-loop-name l =
    (goal.iterator-loop-name).can_next l.name-iterator ×
    (goal.iterator-loop-name).is_finite l.name-iterator
    × (l.kept.items ++ filter (stays l.step) (into_iter_items l.name-iterator) ≡ filter (stays l.step) l.fn.names.items)
