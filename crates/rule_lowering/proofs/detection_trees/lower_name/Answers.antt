use Rattle.std.proofs.Common.{ℕ, ◌≡◌, subst, List}
use Rattle.std.specs.Prelude.{IfOk}
use Rattle.backend_core.specs.View.{tree_view}
use Rattle.rule_detections.specs.declared.test.Test.{Test}
use Rattle.rule_lowering.specs.TreeOf.{number_tree}
use Rattle.rule_lowering.proofs.detection_trees.lower_name.Goals as goal

pub returns-clause-ok : goal.returns-clause-ok
returns-clause-ok c =
    let item = c.args.item.now in
    subst (λ (n : ℕ). IfOk c.lower_values.result (λ t. tree_view t ≡ number_tree c.args.fields.now item.place item.joined item.tests n)) c.find-field.ensures
    (subst (λ (vs : List (List Test)). IfOk c.lower_values.result (λ t. tree_view t ≡ number_tree c.args.fields.now item.place item.joined vs c.find-field.result))
    c.as_slice.ensures c.lower_values.ensures.ok)
