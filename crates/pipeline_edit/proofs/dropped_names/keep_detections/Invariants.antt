use Rattle.std.proofs.Common.{◌≡◌, ◌++◌, map}
use Rattle.std.specs.Vec.Iter.{into_iter_items}
use Rattle.pipeline_edit.specs.Dropped.{kept_detection}
use Rattle.pipeline_edit.proofs.dropped_names.keep_detections.Given as goal

abbrev pub invariant-loop-detection : goal.invariant-loop-detection
invariant-loop-detection l =
    (goal.iterator-loop-detection).can_next l.detection-iterator ×
    (goal.iterator-loop-detection).is_finite l.detection-iterator
    × (l.kept ++ map (kept_detection l.step) (into_iter_items l.detection-iterator) ≡ map (kept_detection l.step) l.fn.detections.items)
