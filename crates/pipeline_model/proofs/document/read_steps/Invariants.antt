use Rattle.std.proofs.Common.{◌≡◌, drop, map, take}
use Rattle.std.specs.List.{AllZip}
use Rattle.sig_base.specs.Judged.{first}
use Rattle.yaml_tree.specs.View.{nodes_view}
use Rattle.pipeline_model.specs.Pipelines.{IsStep}
use Rattle.pipeline_model.specs.Reading.{step_cause}
use Rattle.pipeline_model.proofs.document.read_steps.Given as goal

abbrev pub invariant-loop-part : goal.invariant-loop-part
invariant-loop-part l = record {
  cause : first (map (step_cause l.unbuilt l.limits) (nodes_view l.parts)) ≡ first (map (step_cause l.unbuilt l.limits) (nodes_view (drop l.part-index l.parts)));
  read : AllZip IsStep (nodes_view (take l.part-index l.parts)) l.steps;
}
