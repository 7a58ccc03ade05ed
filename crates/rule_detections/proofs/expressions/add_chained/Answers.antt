use Rattle.std.proofs.Common.{◌≡◌, ◌∙◌, ◌++◌, List, append-nil, ap, sym, subst}
use Rattle.std.specs.List.{flat_map}
use Rattle.modifier_words.specs.declared.form.ChainForm.{ChainForm}
use Rattle.rule_detections.specs.Expressions.{use_expressions}
use Rattle.rule_detections.specs.declared.expression.Expression.{Expression}
use Rattle.rule_detections.specs.TestsOf.{form_use}
use Rattle.yaml_tree.specs.Nodes.{place_of}
use Rattle.yaml_tree.specs.View.{nodes_view}
use Rattle.rule_detections.proofs.Found.{none_found}
use Rattle.rule_detections.proofs.expressions.add_chained.Goals as goal

pub returns-in_default-clause-ok : goal.returns-in_default-clause-ok
returns-in_default-clause-ok c =
    let most = c.args.limits.now.value_chars in
    let values = nodes_view c.args.values.now in
    subst (λ (form : ChainForm). c.args.all.now ≡ c.args.all.now ++ flat_map (λ value. use_expressions most (place_of value) (form_use form value)) values)
    c.form.ensures
    (sym (ap (λ (found : List Expression). c.args.all.now ++ found) (none_found most c.form.result values c.in_default.not-Expressions) ∙ append-nil c.args.all.now))
