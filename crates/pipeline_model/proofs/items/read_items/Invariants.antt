use Rattle.std.proofs.Common.{◌≡◌, drop, map, take}
use Rattle.std.specs.List.{AllZip}
use Rattle.sig_base.specs.Judged.{first}
use Rattle.yaml_tree.specs.View.{entries_view}
use Rattle.rule_detections.specs.Items.{IsItem, item_refusal}
use Rattle.pipeline_model.proofs.items.read_items.Given as goal

abbrev pub invariant-loop-entry : goal.invariant-loop-entry
invariant-loop-entry l = record {
  cause : first (map (item_refusal l.unbuilt l.limits) (entries_view l.entries)) ≡ first (map (item_refusal l.unbuilt l.limits) (entries_view (drop l.entry-index l.entries)));
  read : AllZip IsItem (entries_view (take l.entry-index l.entries)) l.items;
}
