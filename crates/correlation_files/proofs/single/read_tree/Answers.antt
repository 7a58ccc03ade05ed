use Rattle.yaml_tree.specs.View.{node_view}
use Rattle.correlation_files.proofs.Documents.{tree_read, tree_unread}
use Rattle.correlation_files.proofs.single.read_tree.Goals as goal

pub returns-in-Ok : goal.returns-in-Ok
returns-in-Ok g c =
    tree_read c.args.limits.now c.args.pipelines.now c.args.schema.now (node_view c.args.node.now) c.in-Ok.unbuilt.items c.as_slice.result.now _ _ _ c.read_found.result
    c.as_slice.ensures.value c.in-Ok.ensures.found c.read_found.ensures

pub returns-in-Err : goal.returns-in-Err
returns-in-Err g c =
    tree_unread c.args.limits.now c.args.pipelines.now c.args.schema.now (node_view c.args.node.now) _ _ c.in-Err.fault c.in-Err.ensures.found
