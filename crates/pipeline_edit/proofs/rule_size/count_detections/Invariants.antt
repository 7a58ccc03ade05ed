use Rattle.std.proofs.Common.{◌≡◌, ◌≤◌, ◌+◌, ◌-◌, ◌^◌, min, drop}
use Rattle.pipeline_limits.specs.Sizes.{total, in_detection}
use Rattle.pipeline_edit.specs.Counted.{size_of}
use Rattle.pipeline_edit.proofs.rule_size.count_detections.Given as goal

abbrev pub invariant-loop-detection : goal.invariant-loop-detection
invariant-loop-detection l = record {
  most : l.count ≤ 2 ^ 64 - 1;
  sum : min (l.count + total (in_detection (size_of l.what)) (drop l.detection-index l.detections)) (2 ^ 64 - 1) ≡ min (total (in_detection (size_of l.what)) l.detections) (2 ^ 64 - 1);
}
