use Rattle.std.proofs.Common.{◌≡◌, ◌++◌, map}
use Rattle.std.specs.Vec.Iter.{into_iter_items}
use Rattle.pipeline_edit.specs.Dropped.{kept_items}
use Rattle.pipeline_edit.proofs.dropped_names.keep_alternatives.Given as goal

abbrev pub invariant-loop-items : goal.invariant-loop-items
invariant-loop-items l =
    (goal.iterator-loop-items).can_next l.items-iterator ×
    (goal.iterator-loop-items).is_finite l.items-iterator
    × (l.kept ++ map (kept_items l.step) (into_iter_items l.items-iterator) ≡ map (kept_items l.step) l.fn.alternatives.items)
