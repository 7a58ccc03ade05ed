use Rattle.std.proofs.Common.{◌≡◌, refl}
use Rattle.std.specs.Fmt.{signed_decimal}
use Rattle.event_schema.specs.Rows.{value_text}
use Rattle.event_schema.proofs.ListLemmas.{some_here}
use Rattle.rule_detections.proofs.test_truth.some_is_number.Goals as goal

pub returns-then-is_number : goal.returns-then-is_number
returns-then-is_number c = (
  (λ yes. some_here (λ value. value_text value ≡ signed_decimal c.args.number.now) c.args.values.now c.loop-value.value-index c.value-item.result
      c.loop-value-test.true c.value-item.is (c.is_number.ensures.0 c.if-is_number.true)),
  (λ some. refl),
)
