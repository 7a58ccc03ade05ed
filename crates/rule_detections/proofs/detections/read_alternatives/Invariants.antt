use Rattle.std.proofs.Common.{◌≡◌, drop, map, take}
use Rattle.std.specs.List.{AllZip}
use Rattle.sig_base.specs.Judged.{first}
use Rattle.yaml_tree.specs.View.{nodes_view}
use Rattle.rule_detections.specs.Detections.{IsAlternative, alternative_refusal}
use Rattle.event_schema.specs.Lists.{EachOf}
use Rattle.rule_detections.specs.Whole.{IsWholeAlternative}
use Rattle.rule_detections.proofs.detections.read_alternatives.Given as goal

abbrev pub invariant-loop-node : goal.invariant-loop-node
invariant-loop-node l = record {
  cause : first (map (alternative_refusal l.unbuilt l.limits) (nodes_view l.nodes)) ≡ first (map (alternative_refusal l.unbuilt l.limits) (nodes_view (drop l.node-index l.nodes)));
  read : AllZip IsAlternative (nodes_view (take l.node-index l.nodes)) l.all;
  whole : EachOf IsWholeAlternative l.all;
}
