use Rattle.std.proofs.Common.{◌≡◌, ◌++◌, map}
use Rattle.std.specs.Vec.Iter.{into_iter_items}
use Rattle.pipeline_fill.specs.Changed.{changed_detection}
use Rattle.pipeline_fill.proofs.items.change_detections.Given as goal

abbrev pub invariant-loop-detection : goal.invariant-loop-detection
invariant-loop-detection l =
    (goal.iterator-loop-detection).can_next l.detection-iterator ×
    (goal.iterator-loop-detection).is_finite l.detection-iterator
    × (l.made ++ map (changed_detection l.change.vars.now l.change.step.now) (into_iter_items l.detection-iterator) ≡ map (changed_detection l.change.vars.now l.change.step.now) l.fn.detections.items)
