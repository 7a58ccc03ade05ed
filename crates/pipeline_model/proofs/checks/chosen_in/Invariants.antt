use Rattle.std.proofs.Common.{◌≡◌, drop}
use Rattle.yaml_tree.specs.View.{entries_view}
use Rattle.pipeline_model.specs.Checks as spec
use Rattle.pipeline_model.proofs.checks.chosen_in.Given as goal

abbrev pub invariant-loop-entry : goal.invariant-loop-entry
invariant-loop-entry l = spec.chosen_in (entries_view l.entries) ≡ spec.chosen_in (entries_view (drop l.entry-index l.entries))
