use Rattle.std.proofs.Common.{◌≡◌, drop, map}
use Rattle.sig_base.specs.Judged.{first}
use Rattle.yaml_tree.specs.View.{nodes_view}
use Rattle.rule_detections.specs.Items.{shape_refusal}
use Rattle.rule_detections.proofs.items.check_shapes.Given as goal

abbrev pub invariant-loop-value : goal.invariant-loop-value
invariant-loop-value l =
    first (map shape_refusal (nodes_view l.values)) ≡ first (map shape_refusal (nodes_view (drop l.value-index l.values)))
