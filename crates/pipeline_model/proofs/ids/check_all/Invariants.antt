use Rattle.std.proofs.Common.{◌≡◌, take, drop}
use Rattle.yaml_tree.specs.View.{nodes_view}
use Rattle.pipeline_check.specs.Causes.{sooner_of}
use Rattle.pipeline_model.specs.Checks.{ids_refusal, id_checks}
use Rattle.pipeline_model.proofs.ids.check_all.Given as goal

abbrev pub invariant-loop-at : goal.invariant-loop-at
invariant-loop-at l = ids_refusal (nodes_view l.parts) ≡ sooner_of l.found (id_checks (nodes_view (take l.at l.parts)) (nodes_view (drop l.at l.parts)))
