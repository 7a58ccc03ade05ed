use Rattle.std.proofs.Common.{◌≡◌, ◌++◌}
use Rattle.std.specs.Vec.Iter.{into_iter_items}
use Rattle.pipeline_edit.specs.Dropped.{kept_items}
use Rattle.pipeline_edit.proofs.dropped_names.keep_items.Given as goal

abbrev pub invariant-loop-item : goal.invariant-loop-item
invariant-loop-item l =
    (goal.iterator-loop-item).can_next l.item-iterator ×
    (goal.iterator-loop-item).is_finite l.item-iterator
    × (l.kept ++ kept_items l.step (into_iter_items l.item-iterator) ≡ kept_items l.step l.fn.items.items)
