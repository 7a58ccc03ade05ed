use Rattle.std.proofs.Common.{◌≡◌, drop}
use Rattle.std.specs.Fmt.{signed_decimal}
use Rattle.event_schema.specs.Lists.{SomeOf}
use Rattle.event_schema.specs.Rows.{value_text}
use Rattle.rule_detections.proofs.test_truth.some_is_number.Given as goal

abbrev pub invariant-loop-value : goal.invariant-loop-value
invariant-loop-value l =
    SomeOf (λ value. value_text value ≡ signed_decimal l.number) l.values
    → SomeOf (λ value. value_text value ≡ signed_decimal l.number) (drop l.value-index l.values)
