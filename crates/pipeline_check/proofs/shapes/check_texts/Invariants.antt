use Rattle.std.proofs.Common.{◌≡◌, drop, map}
use Rattle.yaml_tree.specs.View.{nodes_view}
use Rattle.pipeline_check.specs.Causes.{least, sooner_of}
use Rattle.pipeline_check.specs.Shapes.{text_refusal}
use Rattle.pipeline_check.proofs.shapes.check_texts.Given as goal

abbrev pub invariant-loop-part : goal.invariant-loop-part
invariant-loop-part l = least (map text_refusal (nodes_view l.parts)) ≡ sooner_of l.found (map text_refusal (nodes_view (drop l.part-index l.parts)))
