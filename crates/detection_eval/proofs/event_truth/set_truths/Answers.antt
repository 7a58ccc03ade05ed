use Rattle.std.proofs.Common.{◌↔◌, ◌∙◌, IsTrue, ℕ, Bool, List, subst, arith}
use Rattle.detection_eval.specs.Ready.{AlternativesHold}
use Rattle.detection_eval.specs.declared.numbered.NumberedItem.{NumberedItem}
use Rattle.detection_eval.proofs.Truths.{one_more}
use Rattle.detection_eval.proofs.event_truth.set_truths.Goals as goal

pub loop-number-preserved : goal.loop-number-preserved
loop-number-preserved c =
    let searched = c.args.searched.now in
    let row = c.args.event.now.values in (
      c.detection_holds.ensures.same ∙ c.loop-number.invariant.0,
      one_more (λ (b : Bool) (alternatives : List (List NumberedItem)). IsTrue b ↔ AlternativesHold c.args.finders.now searched row alternatives)
          c.detection_holds.result c.loop-number.truths c.args.detections.now c.loop-number.number c.index-detections-number.result (omega arith) (omega arith)
          c.index-detections-number.is
          (subst (λ (texts : List (List ℕ)). IsTrue c.detection_holds.result ↔ AlternativesHold texts searched row c.index-detections-number.result)
          c.loop-number.invariant.0 c.detection_holds.ensures.holds)
          c.loop-number.invariant.1,
    )
