use Rattle.std.proofs.Common.{◌≡◌, ◌↔◌, drop}
use Rattle.detection_eval.specs.Ready.{Satisfies, ValuesHold}
use Rattle.event_schema.specs.Lists.{SomeOf}
use Rattle.event_schema.specs.Rows.{values_if_any}
use Rattle.detection_eval.proofs.item_truth.some_field_satisfies.Given as goal

abbrev pub invariant-loop-number : goal.invariant-loop-number
invariant-loop-number l =
    (l.finders ≡ l.fn.finders)
    × (SomeOf (λ number. ValuesHold l.joined (Satisfies l.fn.finders l.event.values (values_if_any l.event.values number)) l.values) (drop l.number-index l.numbers)
    ↔ SomeOf (λ number. ValuesHold l.joined (Satisfies l.fn.finders l.event.values (values_if_any l.event.values number)) l.values) l.numbers)
