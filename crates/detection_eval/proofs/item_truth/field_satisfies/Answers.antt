use Rattle.std.proofs.Common.{◌↔◌, IsTrue, List, subst}
use Rattle.event_schema.specs.declared.value.Value.{Value}
use Rattle.detection_eval.specs.Ready.{Satisfies, ValuesHold}
use Rattle.detection_eval.proofs.item_truth.field_satisfies.Goals as goal

pub returns-clause-holds : goal.returns-clause-holds
returns-clause-holds c =
    subst (λ (own : List Value). IsTrue c.are_satisfied.result ↔ ValuesHold c.args.joined (Satisfies c.args.finders.now c.args.event.now.values own) c.args.values.now)
    c.values_of.ensures c.are_satisfied.ensures.holds
