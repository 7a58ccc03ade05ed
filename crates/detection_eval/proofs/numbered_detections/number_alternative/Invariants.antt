use Rattle.std.proofs.Common.{◌≡◌, ◌++◌, drop, map}
use Rattle.detection_eval.specs.Ready.{numbered_item}
use Rattle.detection_eval.proofs.numbered_detections.number_alternative.Given as goal

abbrev pub invariant-loop-item : goal.invariant-loop-item
invariant-loop-item l = l.all ++ map (numbered_item l.fields l.texts) (drop l.item-index l.items) ≡ map (numbered_item l.fields l.texts) l.items
