use Rattle.std.proofs.Common.{drop}
use Rattle.event_schema.specs.Lists.{SomeOf}
use Rattle.rule_detections.specs.Holds.{ValueStands}
use Rattle.rule_detections.proofs.test_truth.some_stands.Given as goal

abbrev pub invariant-loop-value : goal.invariant-loop-value
invariant-loop-value l =
    SomeOf (ValueStands l.op l.number) l.values → SomeOf (ValueStands l.op l.number) (drop l.value-index l.values)
