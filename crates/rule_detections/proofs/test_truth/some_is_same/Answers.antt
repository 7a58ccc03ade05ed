use Rattle.std.proofs.Common.{refl}
use Rattle.event_schema.proofs.ListLemmas.{some_here}
use Rattle.event_schema.specs.Lists.{SomeOf}
use Rattle.rule_detections.specs.Holds.{AreSame}
use Rattle.rule_detections.proofs.test_truth.some_is_same.Goals as goal

pub returns-then-same_as_some : goal.returns-then-same_as_some
returns-then-same_as_some c = (
  (λ yes. some_here (λ value. SomeOf (AreSame value) c.args.others.now) c.args.values.now c.loop-value.value-index c.value-item.result
      c.loop-value-test.true c.value-item.is (c.same_as_some.ensures.0 c.if-same_as_some.true)),
  (λ some. refl),
)
