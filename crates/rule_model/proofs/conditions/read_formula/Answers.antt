use Rattle.std.proofs.Common.{◌∙◌, sym}
use Rattle.std.specs.Str.{chars}
use Rattle.sig_conditions.specs.Conditions.{cond_view}
use Rattle.sig_conditions.specs.Formulas.{form_view}
use Rattle.sig_conditions.specs.declared.formula.Formula.{Formula}
use Rattle.yaml_tree.specs.View.{node_view}
use Rattle.rule_model.specs.Conditions.{IsFormula}
use Rattle.sig_base.proofs.Firsts.{hands_on}
use Rattle.rule_model.proofs.Texts.{unread_judged, resolved_judged}
use Rattle.rule_model.proofs.conditions.read_formula.Goals as goal

pub returns-in_err-condition-clause-judged : goal.returns-in_err-condition-clause-judged
returns-in_err-condition-clause-judged c =
    hands_on _ (λ (f : Formula). IsFormula c.args.names.now.names (node_view c.args.node.now) (form_view f)) c.from_residual.result c.in_err-condition.field-0.0 _ _ _ c.from_residual.ensures.1 (λ e p. p)
    (unread_judged c.args.limits.now c.args.names.now.names (node_view c.args.node.now) (chars c.as_str.result.now) c.place_of-place.result _
    c.in-Some.ensures.is_text (c.as_str.ensures.chars ∙ sym c.in-Some.ensures.some) c.place_of-place.ensures c.in_err-condition.ensures.refused)
    (λ r p. p)

pub returns-clause-judged : goal.returns-clause-judged
returns-clause-judged c =
    resolved_judged c.args.limits.now c.args.names.now.names (node_view c.args.node.now) (chars c.as_str.result.now) c.place_of-place.result
    (cond_view c.in_ok-condition.condition) c.resolve_condition.result
    c.in-Some.ensures.is_text (c.as_str.ensures.chars ∙ sym c.in-Some.ensures.some) c.place_of-place.ensures c.in_ok-condition.ensures.read
    c.resolve_condition.ensures.formula c.resolve_condition.ensures.refused
