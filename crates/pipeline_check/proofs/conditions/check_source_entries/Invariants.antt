use Rattle.std.proofs.Common.{◌≡◌, drop, map}
use Rattle.yaml_tree.specs.View.{entries_view}
use Rattle.pipeline_check.specs.Causes.{least, sooner_of}
use Rattle.pipeline_check.specs.Shapes.{source_entry}
use Rattle.pipeline_check.proofs.conditions.check_source_entries.Given as goal

abbrev pub invariant-loop-entry : goal.invariant-loop-entry
invariant-loop-entry l = least (map (source_entry l.known) (entries_view l.entries)) ≡ sooner_of l.found (map (source_entry l.known) (entries_view (drop l.entry-index l.entries)))
