use Rattle.std.proofs.Common.{◌≡◌, drop, map}
use Rattle.yaml_tree.specs.View.{entries_view}
use Rattle.pipeline_model.specs.Checks.{entry_refusal}
use Rattle.pipeline_check.specs.Causes.{least, sooner_of}
use Rattle.pipeline_model.proofs.checks.check_entries.Given as goal

abbrev pub invariant-loop-entry : goal.invariant-loop-entry
invariant-loop-entry l = least (map (entry_refusal l.chosen l.kind) (entries_view l.entries)) ≡ sooner_of l.found (map (entry_refusal l.chosen l.kind) (entries_view (drop l.entry-index l.entries)))
