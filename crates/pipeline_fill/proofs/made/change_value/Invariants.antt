use Rattle.std.proofs.Common.{◌≡◌, ◌++◌}
use Rattle.std.specs.List.{flat_map}
use Rattle.std.specs.Vec.Iter.{into_iter_items}
use Rattle.pipeline_fill.specs.Changed.{changed_test}
use Rattle.pipeline_fill.proofs.made.change_value.Given as goal

abbrev pub invariant-loop-test : goal.invariant-loop-test
invariant-loop-test l =
    (goal.iterator-loop-test).can_next l.test-iterator ×
    (goal.iterator-loop-test).is_finite l.test-iterator
    × (l.all.items ++ flat_map (changed_test l.change.vars.now l.change.step.now.action) (into_iter_items l.test-iterator) ≡ flat_map (changed_test l.change.vars.now l.change.step.now.action) l.fn.tests.items)
