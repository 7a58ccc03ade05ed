use Rattle.std.proofs.Common.{◌≡◌, take, map}
use Rattle.yaml_tree.specs.View.{nodes_view}
use Rattle.rule_head.specs.Sources.{source_of}
use Rattle.pipeline_model.proofs.values.copy_all_sources.Given as goal

abbrev pub invariant-loop-part : goal.invariant-loop-part
invariant-loop-part l = l.sources ≡ map source_of (nodes_view (take l.part-index l.parts))
