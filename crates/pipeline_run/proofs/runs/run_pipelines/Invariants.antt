use Rattle.std.proofs.Common.{◌≡◌, drop}
use Rattle.rule_model.specs.Plain.{rule_view}
use Rattle.pipeline_run.specs.Chained as spec
use Rattle.pipeline_run.proofs.runs.run_pipelines.Given as goal

abbrev pub invariant-loop-pipeline : goal.invariant-loop-pipeline
invariant-loop-pipeline l = spec.run_pipelines l.limits (drop l.pipeline-index l.pipelines) (rule_view l.made) ≡ spec.run_pipelines l.limits l.pipelines (rule_view l.fn.rule)
