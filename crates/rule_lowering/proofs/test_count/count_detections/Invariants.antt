use Rattle.std.proofs.Common.{◌≡◌, ◌++◌, ◌-◌, ◌^◌, drop}
use Rattle.rule_lowering.specs.Counts.{detection_counts}
use Rattle.rule_lowering.proofs.test_count.count_detections.Given as goal

abbrev pub invariant-loop-detection : goal.invariant-loop-detection
invariant-loop-detection l = l.counts.items ++ detection_counts (2 ^ 127 - 1) l.searched (drop l.detection-index l.detections) ≡ detection_counts (2 ^ 127 - 1) l.searched l.detections
