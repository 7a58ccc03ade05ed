use Rattle.std.proofs.Common.{◌≡◌, take, map}
use Rattle.yaml_tree.specs.View.{entries_view}
use Rattle.pipeline_model.specs.Pipelines.{pair_of}
use Rattle.pipeline_model.proofs.values.copy_pairs.Given as goal

abbrev pub invariant-loop-entry : goal.invariant-loop-entry
invariant-loop-entry l = l.pairs ≡ map pair_of (entries_view (take l.entry-index l.entries))
