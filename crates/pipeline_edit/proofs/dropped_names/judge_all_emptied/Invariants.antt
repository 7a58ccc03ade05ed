use Rattle.std.proofs.Common.{◌≡◌, drop}
use Rattle.pipeline_edit.specs.Dropped.{emptied_refusal}
use Rattle.pipeline_edit.proofs.dropped_names.judge_all_emptied.Given as goal

abbrev pub invariant-loop-detection : goal.invariant-loop-detection
invariant-loop-detection l = emptied_refusal (drop l.detection-index l.detections) ≡ emptied_refusal l.detections
