use Rattle.std.proofs.Common.{◌≡◌, ◌++◌, map}
use Rattle.std.specs.Vec.Iter.{into_iter_items}
use Rattle.pipeline_fill.specs.Changed.{changed_items}
use Rattle.pipeline_fill.proofs.items.change_alternatives.Given as goal

abbrev pub invariant-loop-items : goal.invariant-loop-items
invariant-loop-items l =
    (goal.iterator-loop-items).can_next l.items-iterator ×
    (goal.iterator-loop-items).is_finite l.items-iterator
    × (l.made ++ map (changed_items l.change.vars.now l.change.step.now) (into_iter_items l.items-iterator) ≡ map (changed_items l.change.vars.now l.change.step.now) l.fn.alternatives.items)
