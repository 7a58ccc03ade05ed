use Rattle.std.proofs.Common.{◌≡◌, ◌≤◌, ◌+◌, ◌-◌, ◌^◌, max, map, drop}
use Rattle.pipeline_fill.specs.Counts.{capped}
use Rattle.pipeline_limits.specs.Sizes.{total, in_detection, name_count, test_count}
use Rattle.pipeline_fill.specs.Changed.{changed_detection}
use Rattle.pipeline_fill.specs.Entries.{largest}
use Rattle.pipeline_fill.specs.Longest.{longest_detection}
use Rattle.pipeline_fill.specs.Extent.{item_extent}
use Rattle.pipeline_fill.specs.Grown.{open_detection, first_of}
use Rattle.pipeline_fill.proofs.sizes.measure_detections.Given as goal

abbrev pub invariant-loop-detection : goal.invariant-loop-detection
invariant-loop-detection l = record {
  few_names : l.size.names ≤ 2 ^ 127 - 1;
  few : l.size.tests ≤ 2 ^ 127 - 1;
  short : l.size.longest ≤ 2 ^ 127 - 1;
  names : capped (l.size.names + total (in_detection name_count) (map (changed_detection l.change.vars.now l.change.step.now) (drop l.detection-index l.detections))) ≡ capped (total (in_detection name_count) (map (changed_detection l.change.vars.now l.change.step.now) l.detections));
  tests : capped (l.size.tests + total (in_detection test_count) (map (changed_detection l.change.vars.now l.change.step.now) (drop l.detection-index l.detections))) ≡ capped (total (in_detection test_count) (map (changed_detection l.change.vars.now l.change.step.now) l.detections));
  most : capped (max l.size.longest (largest longest_detection (map (changed_detection l.change.vars.now l.change.step.now) (drop l.detection-index l.detections)))) ≡ capped (largest longest_detection (map (changed_detection l.change.vars.now l.change.step.now) l.detections));
  narrow : l.size.extent ≤ 2 ^ 127 - 1;
  all : capped (l.size.extent + total (in_detection item_extent) (map (changed_detection l.change.vars.now l.change.step.now) (drop l.detection-index l.detections))) ≡ capped (total (in_detection item_extent) (map (changed_detection l.change.vars.now l.change.step.now) l.detections));
  first : first_of (open_detection l.change.vars.now l.change.step.now) (drop l.detection-index l.detections) ≡ first_of (open_detection l.change.vars.now l.change.step.now) l.detections;
}
