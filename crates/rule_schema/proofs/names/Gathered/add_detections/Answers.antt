use Rattle.rule_schema.specs.Gathered.{detection_uses}
use Rattle.rule_schema.proofs.Gathering.{stop, gathers_on}
use Rattle.rule_schema.proofs.names.Gathered.add_detections.Goals as goal

pub returns-in_err-add_alternatives-clause-gathers : goal.returns-in_err-add_alternatives-clause-gathers
returns-in_err-add_alternatives-clause-gathers c =
    gathers_on c.from_residual.result c.in_err-add_alternatives.field-0.0 _ _ _ _ _ _ _ c.from_residual.ensures.1 (λ y p. p) (rw c.as_slice.ensures at c.in_err-add_alternatives.ensures.gathers)
    (λ r g. stop detection_uses c.loop-detection.detection-index c.args.detections.now c.detection-item.result _ r _ c.loop-detection-test.true c.detection-item.is c.loop-detection.invariant.gathers g)
