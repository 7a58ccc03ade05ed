use Rattle.std.proofs.Common.{◌≡◌, take, map}
use Rattle.yaml_tree.specs.View.{entries_view}
use Rattle.pipeline_model.specs.Pipelines.{var_of}
use Rattle.pipeline_model.proofs.values.copy_vars.Given as goal

abbrev pub invariant-loop-entry : goal.invariant-loop-entry
invariant-loop-entry l = l.vars ≡ map var_of (entries_view (take l.entry-index l.entries))
