use Rattle.std.proofs.Common.{refl}
use Rattle.event_schema.proofs.ListLemmas.{some_here}
use Rattle.rule_detections.specs.Holds.{AreSame}
use Rattle.rule_detections.proofs.test_truth.same_as_some.Goals as goal

pub returns-then-are_same : goal.returns-then-are_same
returns-then-are_same c = (
  (λ yes. some_here (AreSame c.args.value.now) c.args.others.now c.loop-other.other-index c.other-item.result
      c.loop-other-test.true c.other-item.is (c.are_same.ensures.0 c.if-are_same.true)),
  (λ some. refl),
)
