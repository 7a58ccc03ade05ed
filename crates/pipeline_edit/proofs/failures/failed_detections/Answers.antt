use Rattle.std.proofs.Common.{sym}
use Rattle.std.specs.List.{flat_map}
use Rattle.rule_schema.proofs.FirstRefused.{part_here}
use Rattle.pipeline_edit.specs.Failed.{item_failure}
use Rattle.pipeline_edit.proofs.failures.failed_detections.Goals as goal

pub returns-in-Some : goal.returns-in-Some
returns-in-Some c =
    part_here (item_failure c.args.step.now) (λ d. flat_map (λ items. items) d.alternatives) c.loop-detection.detection-index c.args.detections.now c.detection-item.result c.in-Some.refusal _
    c.loop-detection-test.true c.detection-item.is (rw c.as_slice.ensures at (sym c.in-Some.ensures)) c.loop-detection.invariant
