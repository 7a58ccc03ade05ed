use Rattle.std.proofs.Common.{◌↔◌, ◌∙◌, IsTrue, ℕ, List, get_or, subst}
use Rattle.std.specs.Prelude.{Option, None}
use Rattle.event_schema.specs.Rows.{values_if_any}
use Rattle.detection_eval.specs.Ready.{Satisfies, ValuesHold}
use Rattle.detection_eval.proofs.Going.{read_is, some_stops, some_goes}
use Rattle.detection_eval.proofs.item_truth.some_field_satisfies.Goals as goal

pub returns-then-field_satisfies-clause-holds : goal.returns-then-field_satisfies-clause-holds
returns-then-field_satisfies-clause-holds c =
    let row = c.args.event.now.values in
    let values = c.args.values.now in
    let numbers = c.args.numbers.now in
    let i = c.loop-number.number-index in
    some_stops (λ (number : Option ℕ). ValuesHold c.args.joined (Satisfies c.args.finders.now row (values_if_any row number)) values) numbers i
    (get_or numbers i None) c.loop-number-test.true (read_is numbers i None c.loop-number-test.true) c.if-field_satisfies.true
    (subst (λ (texts : List (List ℕ)). IsTrue c.field_satisfies.result ↔ ValuesHold c.args.joined (Satisfies texts row (values_if_any row (get_or numbers i None))) values)
    c.loop-number.invariant.0 c.field_satisfies.ensures.holds)

pub loop-number-preserved : goal.loop-number-preserved
loop-number-preserved c =
    let row = c.args.event.now.values in
    let values = c.args.values.now in
    let numbers = c.args.numbers.now in
    let i = c.loop-number.number-index in (
      c.field_satisfies.ensures.same ∙ c.loop-number.invariant.0,
      some_goes (λ (number : Option ℕ). ValuesHold c.args.joined (Satisfies c.args.finders.now row (values_if_any row number)) values) numbers i
          (get_or numbers i None) c.loop-number-test.true (read_is numbers i None c.loop-number-test.true) c.if-field_satisfies.false
          (subst (λ (texts : List (List ℕ)). IsTrue c.field_satisfies.result ↔ ValuesHold c.args.joined (Satisfies texts row (values_if_any row (get_or numbers i None))) values)
          c.loop-number.invariant.0 c.field_satisfies.ensures.holds)
          c.loop-number.invariant.1,
    )
