use Rattle.std.proofs.Common.{◌≡◌, drop, map}
use Rattle.sig_base.specs.Judged.{first}
use Rattle.rule_schema.specs.Inferred.{items_of}
use Rattle.pipeline_edit.specs.Failed.{item_failure}
use Rattle.pipeline_edit.proofs.failures.failed_detections.Given as goal

abbrev pub invariant-loop-detection : goal.invariant-loop-detection
invariant-loop-detection l = first (map (item_failure l.step) (items_of (drop l.detection-index l.detections))) ≡ first (map (item_failure l.step) (items_of l.detections))
