use Rattle.std.proofs.Common.{◌≡◌, take, map}
use Rattle.yaml_tree.specs.View.{nodes_view}
use Rattle.pipeline_model.specs.Pipelines.{value_text}
use Rattle.pipeline_model.proofs.values.copy_values.Given as goal

abbrev pub invariant-loop-part : goal.invariant-loop-part
invariant-loop-part l = l.texts ≡ map value_text (nodes_view (take l.part-index l.parts))
