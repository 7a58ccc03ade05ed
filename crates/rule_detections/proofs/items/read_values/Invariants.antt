use Rattle.std.proofs.Common.{◌≡◌, drop, map, take}
use Rattle.std.specs.List.{AllZip}
use Rattle.sig_base.specs.Judged.{first}
use Rattle.rule_detections.specs.PlainTests.{ArePlainTests}
use Rattle.rule_detections.specs.TestsOf.{TestsOf, value_refusal}
use Rattle.yaml_tree.specs.View.{nodes_view}
use Rattle.event_schema.specs.Lists.{EachOf}
use Rattle.rule_detections.proofs.items.read_values.Given as goal

abbrev pub invariant-loop-value : goal.invariant-loop-value
invariant-loop-value l = record {
  cause : first (map (value_refusal l.unbuilt l.limits.value_chars l.limits.dashes l.chain) (nodes_view l.values))
      ≡ first (map (value_refusal l.unbuilt l.limits.value_chars l.limits.dashes l.chain) (nodes_view (drop l.value-index l.values)));
  read : AllZip (TestsOf l.chain) (nodes_view (take l.value-index l.values)) l.all;
  plain : EachOf ArePlainTests l.all;
}
