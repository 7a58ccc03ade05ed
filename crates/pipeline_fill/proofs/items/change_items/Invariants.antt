use Rattle.std.proofs.Common.{◌≡◌, ◌++◌, map}
use Rattle.std.specs.Vec.Iter.{into_iter_items}
use Rattle.pipeline_fill.specs.Changed.{changed_item}
use Rattle.pipeline_fill.proofs.items.change_items.Given as goal

abbrev pub invariant-loop-item : goal.invariant-loop-item
invariant-loop-item l =
    (goal.iterator-loop-item).can_next l.item-iterator ×
    (goal.iterator-loop-item).is_finite l.item-iterator
    × (l.made ++ map (changed_item l.change.vars.now l.change.step.now) (into_iter_items l.item-iterator) ≡ map (changed_item l.change.vars.now l.change.step.now) l.fn.items.items)
