use Rattle.std.proofs.Common.{◌≡◌, ◌↔◌, drop}
use Rattle.detection_eval.specs.Ready.{Satisfies}
use Rattle.event_schema.specs.Lists.{SomeOf}
use Rattle.event_schema.specs.Rows.{field_values}
use Rattle.detection_eval.proofs.item_truth.some_search_satisfies.Given as goal

abbrev pub invariant-loop-field : goal.invariant-loop-field
invariant-loop-field l =
    (l.finders ≡ l.fn.finders)
    × (SomeOf (λ n. Satisfies l.fn.finders l.event.values (field_values l.event.values n) l.tests) (drop l.field-index l.searched)
    ↔ SomeOf (λ n. Satisfies l.fn.finders l.event.values (field_values l.event.values n) l.tests) l.searched)
