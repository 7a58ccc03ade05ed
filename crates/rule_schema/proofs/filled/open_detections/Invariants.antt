use Rattle.std.proofs.Common.{◌≡◌, drop, map}
use Rattle.sig_base.specs.Judged.{first}
use Rattle.rule_schema.specs.Inferred.{items_of, open_line}
use Rattle.rule_schema.proofs.filled.open_detections.Given as goal

abbrev pub invariant-loop-detection : goal.invariant-loop-detection
invariant-loop-detection l = first (map open_line (items_of (drop l.detection-index l.detections))) ≡ first (map open_line (items_of l.detections))
