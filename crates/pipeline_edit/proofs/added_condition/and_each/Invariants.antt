use Rattle.std.proofs.Common.{◌≡◌, ◌++◌}
use Rattle.std.specs.Vec.Iter.{into_iter_items}
use Rattle.sig_conditions.specs.Formulas.{forms_view}
use Rattle.pipeline_edit.specs.Added as spec
use Rattle.pipeline_edit.proofs.added_condition.and_each.Given as goal

abbrev pub invariant-loop-condition : goal.invariant-loop-condition
invariant-loop-condition l =
    (goal.iterator-loop-condition).can_next l.condition-iterator ×
    (goal.iterator-loop-condition).is_finite l.condition-iterator
    × (forms_view l.all.items ++ spec.and_each (spec.added_form l.added.negated l.added.number) (forms_view (into_iter_items l.condition-iterator))
    ≡ spec.and_each (spec.added_form l.added.negated l.added.number) (forms_view l.fn.conditions.items))
