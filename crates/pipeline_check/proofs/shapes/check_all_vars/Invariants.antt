use Rattle.std.proofs.Common.{◌≡◌, drop, map}
use Rattle.yaml_tree.specs.View.{entries_view}
use Rattle.pipeline_check.specs.Causes.{least, sooner_of}
use Rattle.pipeline_check.specs.Shapes.{var_refusal}
use Rattle.pipeline_check.proofs.shapes.check_all_vars.Given as goal

abbrev pub invariant-loop-entry : goal.invariant-loop-entry
invariant-loop-entry l = least (map var_refusal (entries_view l.entries)) ≡ sooner_of l.found (map var_refusal (entries_view (drop l.entry-index l.entries)))
