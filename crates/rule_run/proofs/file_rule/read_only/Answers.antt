use Rattle.rule_head.specs.Heads.{rest_of}
use Rattle.rule_run.proofs.Runs.{of_documents, of_no_tree}
use Rattle.yaml_documents.specs.Given.{answers_view}
use Rattle.yaml_tree.specs.View.{node_view}
use Rattle.rule_run.proofs.file_rule.read_only.Goals as goal

pub returns-in-Ok : goal.returns-in-Ok
returns-in-Ok g c =
    let t = node_view c.in-Ok.node.now in
    of_documents c.args.limits.now (answers_view c.args.documents.now) t (rest_of t) _ _ c.read_node.result c.in-Ok.ensures.ok c.read_node.ensures

pub returns-in-Err : goal.returns-in-Err
returns-in-Err g c = of_no_tree c.args.limits.now (answers_view c.args.documents.now) _ c.in-Err.refusal c.in-Err.ensures.err
