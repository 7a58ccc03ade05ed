use Rattle.std.proofs.Common.{◌≡◌, ◌∙◌, ◌++◌, List, append-nil, ap, sym, subst}
use Rattle.std.specs.Prelude.{is_none, OnOk}
use Rattle.std.specs.List.{flat_map}
use Rattle.rule_detections.specs.Expressions.{key_refusal, value_expressions}
use Rattle.rule_detections.specs.Items.{key_chain}
use Rattle.rule_detections.specs.declared.expression.Expression.{Expression}
use Rattle.yaml_tree.proofs.NodeViews.{view-Entry}
use Rattle.yaml_tree.specs.Nodes.{parts_in}
use Rattle.yaml_tree.specs.Tree.{Member}
use Rattle.yaml_tree.specs.View.{entry_view}
use Rattle.rule_detections.proofs.Chained.{made_of_none, made_of_some}
use Rattle.rule_detections.proofs.expressions.add_item.Goals as goal

pub returns-in_default-clause-ok : goal.returns-in_default-clause-ok
returns-in_default-clause-ok c =
    let e = entry_view c.args.entry.now in
    sym (ap (λ (more : List Expression). c.args.all.now ++ more)
    (made_of_none (is_none (key_refusal e)) (key_chain e) c.in_ok-chain.field-0 _ c.in_ok-chain.ensures.ok c.in_default.not-Some) ∙ append-nil c.args.all.now)

pub returns-clause-ok : goal.returns-clause-ok
returns-clause-ok c =
    let most = c.args.limits.now.value_chars in
    let e = entry_view c.args.entry.now in
    let chain = c.in-Some.chain in
    subst (λ (more : List Expression). OnOk c.add_chained.result (c.add_chained.new.all ≡ c.args.all.now ++ more))
    (ap (flat_map (value_expressions most chain)) (c.parts_of.ensures ∙ sym (ap (λ (m : Member). parts_in m.value) (view-Entry c.args.entry.now)))
    ∙ made_of_some (is_none (key_refusal e)) (key_chain e) chain c.in_ok-chain.field-0 (λ w. flat_map (value_expressions most w) (parts_in e.value)) c.in_ok-chain.ensures.ok c.in-Some.is)
    c.add_chained.ensures.ok
