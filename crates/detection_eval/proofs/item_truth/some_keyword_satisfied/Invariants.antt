use Rattle.std.proofs.Common.{◌≡◌, ◌↔◌, drop}
use Rattle.detection_eval.specs.Ready.{SearchSatisfies}
use Rattle.event_schema.specs.Lists.{SomeOf}
use Rattle.detection_eval.proofs.item_truth.some_keyword_satisfied.Given as goal

abbrev pub invariant-loop-tests : goal.invariant-loop-tests
invariant-loop-tests l =
    (l.finders ≡ l.fn.finders)
    × (SomeOf (SearchSatisfies l.fn.finders l.searched l.event.values) (drop l.tests-index l.values)
    ↔ SomeOf (SearchSatisfies l.fn.finders l.searched l.event.values) l.values)
