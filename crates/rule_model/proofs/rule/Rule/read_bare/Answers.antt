use Rattle.std.proofs.Common.{ℕ, subst}
use Rattle.sig_conditions.specs.Formulas.{forms_view}
use Rattle.yaml_tree.specs.View.{node_view}
use Rattle.event_schema.specs.Lists.{EachOf}
use Rattle.rule_model.specs.Whole.{IsWholeForm}
use Rattle.rule_model.proofs.RuleLemmas.{as_many}
use Rattle.rule_model.proofs.rule.Rule.read_bare.Goals as goal

pub returns-clause-whole : goal.returns-clause-whole
returns-clause-whole c = record {
  detections = c.in_ok-detections.ensures.whole;
  some = c.in_ok-conditions.ensures.some;
  conditions =
      subst (λ (count : ℕ). EachOf (IsWholeForm count) (forms_view c.in_ok-conditions.conditions.items))
      (as_many (node_view c.in-Some-value_at.detection.now) c.in_ok-detections.detections c.in_ok-detections.ensures.judged.1)
      c.in_ok-conditions.ensures.whole;
}
