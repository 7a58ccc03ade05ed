use Rattle.std.proofs.Common.{◌≡◌, ◌+◌, ◌++◌, map}
use Rattle.std.specs.Vec.Iter.{into_iter_items}
use Rattle.pipeline_rename.specs.Names as spec
use Rattle.pipeline_rename.specs.Renamed as renamed
use Rattle.pipeline_limits.specs.Sizes.{total, in_detection, name_count, test_count}
use Rattle.pipeline_rename.proofs.items.rename_detections.Given as goal

abbrev pub invariant-loop-detection : goal.invariant-loop-detection
invariant-loop-detection l =
    (goal.iterator-loop-detection).can_next l.detection-iterator ×
    (goal.iterator-loop-detection).is_finite l.detection-iterator
    × (l.renamed ++ map (renamed.renamed_detection (spec.names_for l.renaming.step.now)) (into_iter_items l.detection-iterator) ≡ map (renamed.renamed_detection (spec.names_for l.renaming.step.now)) l.fn.detections.items)
    × (l.left.names + total (in_detection name_count) (map (renamed.renamed_detection (spec.names_for l.renaming.step.now)) l.fn.detections.items)
    ≡ l.fn.left.names + total (in_detection name_count) (map (renamed.renamed_detection (spec.names_for l.renaming.step.now)) (into_iter_items l.detection-iterator)))
    × (l.left.tests + total (in_detection test_count) (map (renamed.renamed_detection (spec.names_for l.renaming.step.now)) l.fn.detections.items)
    ≡ l.fn.left.tests + total (in_detection test_count) (map (renamed.renamed_detection (spec.names_for l.renaming.step.now)) (into_iter_items l.detection-iterator)))
