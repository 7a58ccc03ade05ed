use Rattle.std.proofs.Common.{drop}
use Rattle.event_schema.specs.Lists.{SomeOf}
use Rattle.rule_detections.specs.Holds.{AreSame}
use Rattle.rule_detections.proofs.test_truth.same_as_some.Given as goal

abbrev pub invariant-loop-other : goal.invariant-loop-other
invariant-loop-other l = SomeOf (AreSame l.value) l.others → SomeOf (AreSame l.value) (drop l.other-index l.others)
