use Rattle.std.proofs.Common.{◌≡◌, ◌↔◌, drop}
use Rattle.detection_eval.specs.Ready.{Satisfies}
use Rattle.event_schema.specs.Lists.{EachOf}
use Rattle.detection_eval.proofs.item_truth.each_satisfied.Given as goal

abbrev pub invariant-loop-tests : goal.invariant-loop-tests
invariant-loop-tests l =
    (l.finders ≡ l.fn.finders)
    × (EachOf (Satisfies l.fn.finders l.event.values l.own) (drop l.tests-index l.values)
    ↔ EachOf (Satisfies l.fn.finders l.event.values l.own) l.values)
