use Rattle.rule_head.specs.Heads.{rest_of}
use Rattle.rule_run.proofs.Runs.{node_read, node_unread}
use Rattle.yaml_tree.specs.View.{node_view}
use Rattle.rule_run.proofs.file_rule.read_node.Goals as goal

pub returns-in-Ok : goal.returns-in-Ok
returns-in-Ok g c =
    let t = node_view c.args.node.now in
    node_read c.args.limits.now t (rest_of t) c.in-Ok.unbuilt.items c.as_slice.result.now _ _ c.read_lone.result c.in-Ok.ensures.found c.as_slice.ensures.value c.read_lone.ensures.judged

pub returns-in-Err : goal.returns-in-Err
returns-in-Err g c =
    let t = node_view c.args.node.now in
    node_unread c.args.limits.now t (rest_of t) _ _ c.in-Err.fault c.in-Err.ensures.found
