use Rattle.yaml_tree.specs.View.{node_view}
use Rattle.pipeline_files.proofs.Gathering.{tree_read, tree_unread}
use Rattle.pipeline_files.proofs.single.read_tree.Goals as goal

pub returns-in-Ok : goal.returns-in-Ok
returns-in-Ok g c =
    tree_read c.args.limits.now (node_view c.args.node.now) c.in-Ok.unbuilt.items c.as_slice.result.now _ _ c.read.result c.in-Ok.ensures.found c.as_slice.ensures.value c.read.ensures

pub returns-in-Err : goal.returns-in-Err
returns-in-Err g c = tree_unread c.args.limits.now (node_view c.args.node.now) _ _ c.in-Err.fault c.in-Err.ensures.found
