use Rattle.std.proofs.Common.{◌≡◌, drop, map, take}
use Rattle.std.specs.Prelude.{filter}
use Rattle.std.specs.List.{AllZip}
use Rattle.sig_base.specs.Judged.{first}
use Rattle.yaml_tree.specs.View.{entries_view}
use Rattle.rule_detections.specs.Detections.{IsDetection, detection_refusal, is_no_condition}
use Rattle.event_schema.specs.Lists.{EachOf}
use Rattle.rule_detections.specs.Whole.{IsWholeDetection}
use Rattle.rule_detections.proofs.detections.read_entries.Given as goal

abbrev pub invariant-loop-entry : goal.invariant-loop-entry
invariant-loop-entry l = record {
  cause : first (map (detection_refusal l.unbuilt l.limits) (filter is_no_condition (entries_view l.entries)))
      ≡ first (map (detection_refusal l.unbuilt l.limits) (filter is_no_condition (entries_view (drop l.entry-index l.entries))));
  read : AllZip IsDetection (filter is_no_condition (entries_view (take l.entry-index l.entries))) l.all;
  whole : EachOf IsWholeDetection l.all;
}
