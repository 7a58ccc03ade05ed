use Rattle.std.proofs.Common.{◌≡◌, drop, map}
use Rattle.yaml_tree.specs.View.{entries_view}
use Rattle.pipeline_check.specs.Causes.{least, sooner_of}
use Rattle.pipeline_check.specs.Shapes.{field_entry}
use Rattle.pipeline_check.proofs.conditions.check_field_entries.Given as goal

abbrev pub invariant-loop-entry : goal.invariant-loop-entry
invariant-loop-entry l = least (map (field_entry l.known) (entries_view l.entries)) ≡ sooner_of l.found (map (field_entry l.known) (entries_view (drop l.entry-index l.entries)))
