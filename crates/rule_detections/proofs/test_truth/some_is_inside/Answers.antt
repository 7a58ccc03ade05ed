use Rattle.std.proofs.Common.{refl}
use Rattle.event_schema.specs.Rows.{value_text}
use Rattle.event_schema.proofs.ListLemmas.{some_here}
use Rattle.sig_encode.specs.Networks.{InNetwork}
use Rattle.rule_detections.proofs.test_truth.some_is_inside.Goals as goal

pub returns-then-is_inside : goal.returns-then-is_inside
returns-then-is_inside c = (
  (λ yes. some_here (λ value. InNetwork c.args.network.now (value_text value)) c.args.values.now c.loop-value.value-index c.value-item.result
      c.loop-value-test.true c.value-item.is (c.is_inside.ensures.0 c.if-is_inside.true)),
  (λ some. refl),
)
