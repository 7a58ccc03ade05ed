use Rattle.std.proofs.Common.{◌≡◌, ◌++◌, drop}
use Rattle.std.specs.List.{flat_map}
use Rattle.pipeline_model.specs.Checks.{added_in}
use Rattle.rule_detections.specs.Expressions.{item_expressions}
use Rattle.yaml_tree.specs.View.{nodes_view}
use Rattle.pipeline_files.proofs.unbuilt.add_steps.Given as goal

abbrev pub invariant-loop-step : goal.invariant-loop-step
invariant-loop-step l =
    l.all ++ flat_map (item_expressions l.limits) (flat_map added_in (nodes_view (drop l.step-index l.steps)))
    ≡ l.initial.all ++ flat_map (item_expressions l.limits) (flat_map added_in (nodes_view l.steps))
