use Rattle.std.proofs.Common.{◌≡◌, drop, map}
use Rattle.yaml_tree.specs.View.{entries_view}
use Rattle.pipeline_check.specs.Causes.{least, sooner_of}
use Rattle.pipeline_check.specs.Shapes.{mapped_refusal}
use Rattle.pipeline_check.proofs.shapes.check_all_mapped.Given as goal

abbrev pub invariant-loop-entry : goal.invariant-loop-entry
invariant-loop-entry l = least (map (mapped_refusal l.patterns) (entries_view l.entries)) ≡ sooner_of l.found (map (mapped_refusal l.patterns) (entries_view (drop l.entry-index l.entries)))
