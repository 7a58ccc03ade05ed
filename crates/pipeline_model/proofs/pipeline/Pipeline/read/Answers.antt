use Rattle.std.proofs.Common.{rules, ◌≡◌}
use Rattle.std.specs.Prelude.{None}
use Rattle.yaml_tree.specs.View.{node_view}
use Rattle.pipeline_check.specs.Causes.{sooner}
use Rattle.pipeline_model.proofs.Unrefused.{read_whole}
use Rattle.pipeline_model.proofs.pipeline.Pipeline.read.Goals as goal

pub returns-in-None : goal.returns-in-None
returns-in-None c =
    let none : None ≡ sooner c.in_ok-shape.shape c.in_ok-items.items = search rules in
    read_whole c.args.unbuilt.now c.args.limits.now (node_view c.args.node.now) c.in_ok-shape.shape c.in_ok-items.items c.read_all.result c.in_ok-shape.ensures.ok
    c.in_ok-items.ensures.ok none c.read_all.ensures
