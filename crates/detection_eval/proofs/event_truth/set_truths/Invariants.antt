use Rattle.std.proofs.Common.{◌≡◌, take}
use Rattle.detection_eval.specs.Ready.{AreTruths}
use Rattle.detection_eval.proofs.event_truth.set_truths.Given as goal

abbrev pub invariant-loop-number : goal.invariant-loop-number
invariant-loop-number l =
    (l.finders ≡ l.fn.finders) × AreTruths l.fn.finders l.searched l.event.values (take l.number l.truths) (take l.number l.detections)
