use Rattle.std.proofs.Common.{◌≡◌, drop, map}
use Rattle.sig_base.specs.Judged.{first}
use Rattle.rule_schema.specs.Inferred.{items_of, item_line}
use Rattle.rule_schema.proofs.fit.detections_refusal.Given as goal

abbrev pub invariant-loop-detection : goal.invariant-loop-detection
invariant-loop-detection l = first (map (item_line l.fields) (items_of (drop l.detection-index l.detections))) ≡ first (map (item_line l.fields) (items_of l.detections))
