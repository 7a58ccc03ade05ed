use Rattle.std.proofs.Common.{◌≡◌, drop, map}
use Rattle.yaml_tree.specs.View.{entries_view}
use Rattle.pipeline_model.specs.Checks.{top_entry}
use Rattle.pipeline_check.specs.Causes.{least, sooner_of}
use Rattle.pipeline_model.proofs.checks.check_top_entries.Given as goal

abbrev pub invariant-loop-entry : goal.invariant-loop-entry
invariant-loop-entry l = least (map top_entry (entries_view l.entries)) ≡ sooner_of l.found (map top_entry (entries_view (drop l.entry-index l.entries)))
