use Rattle.std.proofs.Common.{◌≡◌, drop, map}
use Rattle.yaml_tree.specs.View.{nodes_view}
use Rattle.pipeline_model.specs.Checks.{items_refusal}
use Rattle.pipeline_check.specs.Causes.{least, sooner_of}
use Rattle.pipeline_model.proofs.items.check_parts.Given as goal

abbrev pub invariant-loop-part : goal.invariant-loop-part
invariant-loop-part l = least (map (items_refusal l.unbuilt l.limits) (nodes_view l.parts)) ≡ sooner_of l.found (map (items_refusal l.unbuilt l.limits) (nodes_view (drop l.part-index l.parts)))
