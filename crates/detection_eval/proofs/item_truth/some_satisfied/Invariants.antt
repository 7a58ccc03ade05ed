use Rattle.std.proofs.Common.{◌≡◌, ◌↔◌, drop}
use Rattle.detection_eval.specs.Ready.{Satisfies}
use Rattle.event_schema.specs.Lists.{SomeOf}
use Rattle.detection_eval.proofs.item_truth.some_satisfied.Given as goal

abbrev pub invariant-loop-tests : goal.invariant-loop-tests
invariant-loop-tests l =
    (l.finders ≡ l.fn.finders)
    × (SomeOf (Satisfies l.fn.finders l.event.values l.own) (drop l.tests-index l.values)
    ↔ SomeOf (Satisfies l.fn.finders l.event.values l.own) l.values)
