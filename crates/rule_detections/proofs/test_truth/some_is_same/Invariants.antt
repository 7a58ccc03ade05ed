use Rattle.std.proofs.Common.{drop}
use Rattle.event_schema.specs.Lists.{SomeOf}
use Rattle.rule_detections.specs.Holds.{AreSame}
use Rattle.rule_detections.proofs.test_truth.some_is_same.Given as goal

abbrev pub invariant-loop-value : goal.invariant-loop-value
invariant-loop-value l =
    SomeOf (λ value. SomeOf (AreSame value) l.others) l.values
    → SomeOf (λ value. SomeOf (AreSame value) l.others) (drop l.value-index l.values)
