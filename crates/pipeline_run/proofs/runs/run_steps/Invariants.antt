use Rattle.std.proofs.Common.{◌≡◌, drop}
use Rattle.rule_model.specs.Plain.{rule_view}
use Rattle.pipeline_run.specs.Chained as spec
use Rattle.pipeline_run.proofs.runs.run_steps.Given as goal

abbrev pub invariant-loop-step : goal.invariant-loop-step
invariant-loop-step l = spec.run_steps l.limits l.vars (drop l.step-index l.steps) (rule_view l.made) ≡ spec.run_steps l.limits l.vars l.steps (rule_view l.fn.rule)
