use Rattle.rule_head.specs.Heads.{rest_of}
use Rattle.rule_model.specs.Plain.{rule_view, rule_with}
use Rattle.rule_model.specs.Rules.{IsRule}
use Rattle.rule_model.specs.declared.rule.Rule.{Rule}
use Rattle.yaml_tree.specs.View.{node_view}
use Rattle.correlation_files.proofs.Documents.{rule_read, rule_unread}
use Rattle.correlation_files.proofs.single.read_rule.Goals as goal

pub returns-in-Ok : goal.returns-in-Ok
returns-in-Ok g c =
    let t = node_view c.args.node.now in
    let ps = c.args.pipelines.now in
    rule_read c.args.limits.now ps c.args.schema.now t (rest_of t) (rule_view c.in-Ok.rule) c.args.unbuilt.now _ _ c.ready_chained.result
    (c.heads_are_kept.ensures.made c.args.limits.now ps) (c.heads_are_kept.ensures.refused c.args.limits.now ps) c.in-Ok.ensures.judged c.ready_chained.ensures

pub returns-in-Err : goal.returns-in-Err
returns-in-Err g c =
    let t = node_view c.args.node.now in
    rule_unread c.args.limits.now c.args.pipelines.now c.args.schema.now t c.args.unbuilt.now _ (λ (r : Rule). IsRule t (rule_with (rest_of t) (rule_view r)))
    c.in-Err.fault c.in-Err.ensures.judged
