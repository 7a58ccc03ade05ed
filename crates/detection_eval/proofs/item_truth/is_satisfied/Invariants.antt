use Rattle.std.proofs.Common.{◌≡◌, ◌↔◌, drop}
use Rattle.event_schema.specs.Lists.{SomeOf}
use Rattle.detection_eval.specs.Ready.{NumberedHolds}
use Rattle.detection_eval.proofs.item_truth.is_satisfied.Given as goal

abbrev pub invariant-loop-test : goal.invariant-loop-test
invariant-loop-test l =
    (l.finders ≡ l.fn.finders)
    × (SomeOf (NumberedHolds l.fn.finders l.event.values l.own) (drop l.test-index l.tests)
    ↔ SomeOf (NumberedHolds l.fn.finders l.event.values l.own) l.tests)
