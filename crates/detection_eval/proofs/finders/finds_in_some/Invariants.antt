use Rattle.std.proofs.Common.{◌≡◌, ◌↔◌, true, drop}
use Rattle.event_schema.specs.Lists.{SomeOf}
use Rattle.event_schema.specs.Rows.{value_text}
use Rattle.query_lang.specs.Patterns.{finds}
use Rattle.detection_eval.proofs.finders.finds_in_some.Given as goal

abbrev pub invariant-loop-value : goal.invariant-loop-value
invariant-loop-value l =
    (l.finder.text.now ≡ l.fn.finder.text.now)
    × (SomeOf (λ value. finds l.fn.finder.text.now (value_text value) ≡ true) (drop l.value-index l.values)
    ↔ SomeOf (λ value. finds l.fn.finder.text.now (value_text value) ≡ true) l.values)
