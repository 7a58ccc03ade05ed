use Rattle.std.proofs.Common.{◌≡◌, ◌++◌, drop}
use Rattle.std.specs.List.{flat_map}
use Rattle.rule_model.specs.Expressions.{detection_expressions}
use Rattle.rule_model.proofs.expressions.add_detections.Given as goal

abbrev pub invariant-loop-detection : goal.invariant-loop-detection
invariant-loop-detection l =
    l.all ++ flat_map detection_expressions (drop l.detection-index l.detections)
    ≡ l.initial.all ++ flat_map detection_expressions l.detections
