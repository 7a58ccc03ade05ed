use Rattle.std.proofs.Common.{◌≡◌, take, map}
use Rattle.yaml_tree.specs.View.{nodes_view}
use Rattle.pipeline_model.specs.Pipelines.{cond_of}
use Rattle.pipeline_model.proofs.values.copy_all_conds.Given as goal

abbrev pub invariant-loop-part : goal.invariant-loop-part
invariant-loop-part l = l.conds ≡ map cond_of (nodes_view (take l.part-index l.parts))
