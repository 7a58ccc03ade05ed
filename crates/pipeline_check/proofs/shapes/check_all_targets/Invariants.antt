use Rattle.std.proofs.Common.{◌≡◌, drop, map}
use Rattle.yaml_tree.specs.View.{nodes_view}
use Rattle.pipeline_check.specs.Causes.{least, sooner_of}
use Rattle.pipeline_check.specs.Shapes.{target_refusal}
use Rattle.pipeline_check.proofs.shapes.check_all_targets.Given as goal

abbrev pub invariant-loop-part : goal.invariant-loop-part
invariant-loop-part l = least (map (target_refusal l.patterns) (nodes_view l.parts)) ≡ sooner_of l.found (map (target_refusal l.patterns) (nodes_view (drop l.part-index l.parts)))
