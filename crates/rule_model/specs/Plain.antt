-- Rules as plain data, which contracts compare.
use Rattle.std.specs.Prelude.{List}
use Rattle.sig_conditions.specs.Formulas.{PlainFormula, forms_view}
use Rattle.yaml_tree.specs.Tree.{Member}
use Rattle.rule_head.specs.Plain.{PlainHead, head_view, head_with}
use Rattle.rule_head.specs.declared.source.LogSource.{LogSource}
use Rattle.rule_detections.specs.declared.detection.Detection.{Detection}
use Rattle.rule_model.specs.declared.rule.Rule.{Rule}

pub record PlainRule : Type 0 where
  pub head : PlainHead
  pub source : LogSource
  pub detections : List Detection
  pub conditions : List PlainFormula

abbrev pub rule_view : Rule → PlainRule
rule_view r = record { head = head_view r.head; source = r.source; detections = r.detections; conditions = forms_view r.conditions.items }

-- the rule with these entries in place of those that its head keeps as they are
abbrev pub rule_with : List Member → PlainRule → PlainRule
rule_with rest r = record { head = head_with rest r.head; source = r.source; detections = r.detections; conditions = r.conditions }
