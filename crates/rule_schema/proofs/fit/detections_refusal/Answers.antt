use Rattle.std.proofs.Common.{sym}
use Rattle.std.specs.List.{flat_map}
use Rattle.rule_schema.specs.Inferred.{item_line}
use Rattle.rule_schema.proofs.FirstRefused.{part_here}
use Rattle.rule_schema.proofs.fit.detections_refusal.Goals as goal

pub returns-in-Some : goal.returns-in-Some
returns-in-Some c =
    part_here (item_line c.args.fields.now) (λ d. flat_map (λ items. items) d.alternatives) c.loop-detection.detection-index c.args.detections.now c.detection-item.result c.in-Some.refusal _ c.loop-detection-test.true c.detection-item.is
    (rw c.as_slice-alternatives.ensures at (sym c.in-Some.ensures)) c.loop-detection.invariant
