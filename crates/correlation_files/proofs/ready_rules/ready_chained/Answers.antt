use Rattle.rule_model.specs.Plain.{rule_view}
use Rattle.correlation_files.proofs.Fitting.{none_chained}
use Rattle.correlation_files.specs.Accepted.{makes_one}
use Rattle.correlation_files.proofs.ready_rules.ready_chained.Goals as goal

pub returns-in-Ok : goal.returns-in-Ok
returns-in-Ok g c = makes_one (rule_view c.in-Ok.made) c.in-Ok.ensures c.ready_filled.ensures

pub returns-in-Err : goal.returns-in-Err
returns-in-Err g c = none_chained c.args.limits.now c.args.pipelines.now c.args.schema.now (rule_view c.args.rule) _ c.in-Err.fault c.in-Err.ensures
