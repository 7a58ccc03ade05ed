use Rattle.std.proofs.Common.{◌≡◌, subst, List}
use Rattle.std.specs.Prelude.{IfOk}
use Rattle.backend_core.specs.FieldAt.{kind_at}
use Rattle.backend_core.specs.View.{tree_view}
use Rattle.rule_detections.specs.declared.test.Test.{Test}
use Rattle.rule_lowering.specs.TreeOf.{value_tree}
use Rattle.rule_lowering.proofs.Ones.{level_one, value_closed}
use Rattle.rule_lowering.proofs.detection_trees.lower_values.Goals as goal

pub returns-in-len1-clause-ok : goal.returns-in-len1-clause-ok
returns-in-len1-clause-ok c =
    level_one c.lower_value.result c.args.joined (value_tree c.args.fields.now c.args.place (kind_at c.args.fields.now c.args.field) c.args.field) c.args.values.now c.value-item.result c.in-len1.len_at_least c.in-len1.len_below c.value-item.is
    (value_closed c.args.fields.now c.args.place (kind_at c.args.fields.now c.args.field) c.args.field c.value-item.result)
    (subst (λ (tests : List Test). IfOk c.lower_value.result (λ t. tree_view t ≡ value_tree c.args.fields.now c.args.place (kind_at c.args.fields.now c.args.field) c.args.field tests)) c.as_slice.ensures c.lower_value.ensures.ok)
