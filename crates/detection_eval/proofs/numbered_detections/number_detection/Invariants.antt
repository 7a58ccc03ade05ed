use Rattle.std.proofs.Common.{◌≡◌, ◌++◌, drop, map}
use Rattle.detection_eval.specs.Ready.{numbered_item}
use Rattle.detection_eval.proofs.numbered_detections.number_detection.Given as goal

abbrev pub invariant-loop-items : goal.invariant-loop-items
invariant-loop-items l =
    l.all ++ map (map (numbered_item l.fields l.texts)) (drop l.items-index l.alternatives) ≡ map (map (numbered_item l.fields l.texts)) l.alternatives
