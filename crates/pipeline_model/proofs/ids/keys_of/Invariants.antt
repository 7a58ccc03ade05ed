use Rattle.std.proofs.Common.{◌≡◌, take, map}
use Rattle.yaml_tree.specs.View.{nodes_view}
use Rattle.pipeline_model.specs.Ids.{id_key}
use Rattle.pipeline_model.proofs.ids.keys_of.Given as goal

abbrev pub invariant-loop-part : goal.invariant-loop-part
invariant-loop-part l = l.keys ≡ map id_key (nodes_view (take l.part-index l.parts))
