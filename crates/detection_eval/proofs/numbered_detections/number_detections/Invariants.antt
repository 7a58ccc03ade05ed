use Rattle.std.proofs.Common.{◌≡◌, ◌++◌, drop, map}
use Rattle.detection_eval.specs.Ready.{numbered_detection}
use Rattle.detection_eval.proofs.numbered_detections.number_detections.Given as goal

abbrev pub invariant-loop-detection : goal.invariant-loop-detection
invariant-loop-detection l = l.all.items ++ map (numbered_detection l.fields l.texts) (drop l.detection-index l.detections) ≡ map (numbered_detection l.fields l.texts) l.detections
