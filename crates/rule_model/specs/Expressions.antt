-- The regular expressions of a rule: in its document, each at its value's place, and of its items, each at its item's place.
use Rattle.std.specs.Prelude.{List, [], map, codes, Option, Some, None}
use Rattle.std.specs.List.{flat_map}
use Rattle.rule_detections.specs.Expressions.{detections_expressions}
use Rattle.rule_detections.specs.declared.detection.Detection.{Detection}
use Rattle.rule_detections.specs.declared.expression.Expression.{Expression}
use Rattle.rule_detections.specs.declared.item.Item.{Item}
use Rattle.sig_base.specs.declared.limits.Limits.{Limits}
use Rattle.rule_detections.specs.TestExpressions.{expressions_in}
use Rattle.yaml_tree.specs.Nodes.{value_in, entries_in}
use Rattle.yaml_tree.specs.Tree.{Tree}
use Rattle.rule_model.specs.Plain.{PlainRule}

-- ---- of a document

abbrev pub expressions_if_any : Limits → Option Tree → List Expression
expressions_if_any limits None = []
expressions_if_any limits (Some t) = detections_expressions limits t

-- of the value of `detection`
abbrev pub document_expressions : Limits → Tree → List Expression
document_expressions limits t = expressions_if_any limits (value_in (codes "detection") (entries_in t))

-- ---- of a rule

abbrev pub item_expressions : Item → List Expression
item_expressions i = map (λ text. record { place = i.place; text = text }) (expressions_in i.tests)

abbrev pub detection_expressions : Detection → List Expression
detection_expressions d = flat_map (flat_map item_expressions) d.alternatives

abbrev pub rule_expressions : PlainRule → List Expression
rule_expressions rule = flat_map detection_expressions rule.detections
