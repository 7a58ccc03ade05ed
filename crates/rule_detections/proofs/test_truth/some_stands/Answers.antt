use Rattle.std.proofs.Common.{refl}
use Rattle.event_schema.proofs.ListLemmas.{some_here}
use Rattle.rule_detections.specs.Holds.{ValueStands}
use Rattle.rule_detections.proofs.test_truth.some_stands.Goals as goal

pub returns-then-value_stands : goal.returns-then-value_stands
returns-then-value_stands c = (
  (λ yes. some_here (ValueStands c.args.op c.args.number.now) c.args.values.now c.loop-value.value-index c.value-item.result
      c.loop-value-test.true c.value-item.is (c.value_stands.ensures.0 c.if-value_stands.true)),
  (λ some. refl),
)
