use Rattle.std.proofs.Common.{drop}
use Rattle.event_schema.specs.Lists.{SomeOf}
use Rattle.event_schema.specs.Rows.{value_text}
use Rattle.sig_encode.specs.Networks.{InNetwork}
use Rattle.rule_detections.proofs.test_truth.some_is_inside.Given as goal

abbrev pub invariant-loop-value : goal.invariant-loop-value
invariant-loop-value l =
    SomeOf (λ value. InNetwork l.network (value_text value)) l.values
    → SomeOf (λ value. InNetwork l.network (value_text value)) (drop l.value-index l.values)
