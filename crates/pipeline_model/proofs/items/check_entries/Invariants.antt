use Rattle.std.proofs.Common.{◌≡◌, drop, map}
use Rattle.yaml_tree.specs.View.{entries_view}
use Rattle.rule_detections.specs.Items.{item_refusal}
use Rattle.pipeline_check.specs.Causes.{least, sooner_of}
use Rattle.pipeline_model.proofs.items.check_entries.Given as goal

abbrev pub invariant-loop-entry : goal.invariant-loop-entry
invariant-loop-entry l = least (map (item_refusal l.unbuilt l.limits) (entries_view l.entries)) ≡ sooner_of l.found (map (item_refusal l.unbuilt l.limits) (entries_view (drop l.entry-index l.entries)))
