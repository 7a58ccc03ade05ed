use Rattle.std.proofs.Common.{◌≡◌, ◌++◌, map}
use Rattle.std.specs.Vec.Iter.{into_iter_items}
use Rattle.pipeline_fill.proofs.fillings.extend_each.Given as goal

abbrev pub invariant-loop-front : goal.invariant-loop-front
invariant-loop-front l =
    (goal.iterator-loop-front).can_next l.front-iterator ×
    (goal.iterator-loop-front).is_finite l.front-iterator
    × (l.all.items ++ map (λ front. front ++ l.more) (into_iter_items l.front-iterator) ≡ map (λ front. front ++ l.more) l.fn.fronts.items)
