use Rattle.std.proofs.Common.{◌≡◌, ◌++◌, drop}
use Rattle.std.specs.List.{flat_map}
use Rattle.rule_detections.specs.Expressions.{alternative_expressions}
use Rattle.yaml_tree.specs.View.{nodes_view}
use Rattle.rule_detections.proofs.expressions.add_alternatives.Given as goal

abbrev pub invariant-loop-node : goal.invariant-loop-node
invariant-loop-node l =
    l.all ++ flat_map (alternative_expressions l.limits) (nodes_view (drop l.node-index l.nodes))
    ≡ l.initial.all ++ flat_map (alternative_expressions l.limits) (nodes_view l.nodes)
