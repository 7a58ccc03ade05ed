use Rattle.std.proofs.Common.{◌≡◌, ◌↔◌, ◌∙◌, IsTrue, ℕ, List, subst, sym}
use Rattle.std.specs.Prelude.{None}
use Rattle.event_schema.specs.declared.value.Value.{Value}
use Rattle.rule_detections.specs.TestExpressions.{expression_of}
use Rattle.rule_detections.specs.Holds.{Holds}
use Rattle.detection_eval.proofs.Founds.{none_is}
use Rattle.detection_eval.proofs.item_truth.other_holds.Goals as goal

pub returns : goal.returns
returns c =
    let test = c.args.numbered.now.test in
    let none : expression_of test ≡ None = none_is (expression_of test) (sym c.is_expression.ensures ∙ c.if-is_expression.false) in
    let holds = subst (λ (others : List Value). IsTrue c.holds_of.result ↔ Holds (λ (name : List ℕ). others) test c.args.own.now) c.values_of.ensures c.holds_of.ensures in
    ((λ yes. (none, holds.0 yes)), (λ h. holds.1 h.1))
