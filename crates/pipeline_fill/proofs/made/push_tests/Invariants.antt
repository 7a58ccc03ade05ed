use Rattle.std.proofs.Common.{◌≡◌, ◌++◌, map}
use Rattle.std.specs.Vec.Iter.{into_iter_items}
use Rattle.rule_detections.specs.declared.test.Test.TheVariants as tests
use Rattle.pipeline_fill.proofs.made.push_tests.Given as goal

abbrev pub invariant-loop-front : goal.invariant-loop-front
invariant-loop-front l =
    (goal.iterator-loop-front).can_next l.front-iterator ×
    (goal.iterator-loop-front).is_finite l.front-iterator
    × (l.all.items ++ map (λ parts. tests.Fits parts l.cased) (into_iter_items l.front-iterator) ≡ l.fn.all.items ++ map (λ parts. tests.Fits parts l.cased) l.fn.fronts.items)
