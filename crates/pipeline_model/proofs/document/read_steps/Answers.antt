use Rattle.std.proofs.Common.{◌∙◌, ◌+◌, sym, subst, take}
use Rattle.std.specs.Prelude.{List}
use Rattle.std.specs.List.{AllZip}
use Rattle.yaml_tree.specs.View.{node_view, nodes_view}
use Rattle.sig_base.proofs.Firsts.{one_more, rest_first}
use Rattle.pipeline_model.specs.Pipelines.{IsStep}
use Rattle.pipeline_model.specs.Reading.{step_cause}
use Rattle.pipeline_model.specs.declared.step.Step.{Step}
use Rattle.pipeline_model.proofs.document.read_steps.Goals as goal

pub loop-part-preserved : goal.loop-part-preserved
loop-part-preserved c =
    let at = c.loop-part in
    let parts = c.args.parts.now in
    record {
      cause = at.invariant.cause
          ∙ rest_first node_view (step_cause c.args.unbuilt.now c.args.limits.now) at.part-index parts c.part-item.result
          c.loop-part-test.true c.part-item.is c.in_ok-step.ensures.0;
      read = subst (λ (all : List Step). AllZip IsStep (nodes_view (take (at.part-index + 1) parts)) all) (sym c.in_ok-push.ensures.ok)
          (one_more node_view IsStep at.part-index parts c.part-item.result at.steps c.in_ok-step.step
          c.loop-part-test.true c.part-item.is at.invariant.read c.in_ok-step.ensures.1);
    }
