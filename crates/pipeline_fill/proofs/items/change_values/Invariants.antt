use Rattle.std.proofs.Common.{◌≡◌, ◌++◌, map}
use Rattle.std.specs.Vec.Iter.{into_iter_items}
use Rattle.pipeline_fill.specs.Changed.{changed_value}
use Rattle.pipeline_fill.proofs.items.change_values.Given as goal

abbrev pub invariant-loop-tests : goal.invariant-loop-tests
invariant-loop-tests l =
    (goal.iterator-loop-tests).can_next l.tests-iterator ×
    (goal.iterator-loop-tests).is_finite l.tests-iterator
    × (l.made ++ map (changed_value l.change.vars.now l.change.step.now.action) (into_iter_items l.tests-iterator) ≡ map (changed_value l.change.vars.now l.change.step.now.action) l.fn.values.items)
