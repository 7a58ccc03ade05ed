use Rattle.std.proofs.Common.{◌≡◌, ◌↔◌, drop}
use Rattle.detection_eval.specs.Ready.{SearchSatisfies}
use Rattle.event_schema.specs.Lists.{EachOf}
use Rattle.detection_eval.proofs.item_truth.each_keyword_satisfied.Given as goal

abbrev pub invariant-loop-tests : goal.invariant-loop-tests
invariant-loop-tests l =
    (l.finders ≡ l.fn.finders)
    × (EachOf (SearchSatisfies l.fn.finders l.searched l.event.values) (drop l.tests-index l.values)
    ↔ EachOf (SearchSatisfies l.fn.finders l.searched l.event.values) l.values)
