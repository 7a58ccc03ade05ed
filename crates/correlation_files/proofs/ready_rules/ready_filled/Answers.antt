use Rattle.rule_model.specs.Plain.{rule_view}
use Rattle.correlation_files.proofs.Fitting.{stands_open, misfits, both_fit}
use Rattle.correlation_files.specs.Accepted.{does_fit}
use Rattle.correlation_files.proofs.ready_rules.ready_filled.Goals as goal

pub returns-in-Err : goal.returns-in-Err
returns-in-Err g c = stands_open c.args.schema.now (rule_view c.args.rule) _ c.in-Err.open c.in-Err.ensures

pub returns-in-Ok-fit_indexed : goal.returns-in-Ok-fit_indexed
returns-in-Ok-fit_indexed g c = does_fit (both_fit c.args.schema.now (rule_view c.args.rule) c.in-Ok.ensures c.in-Ok-fit_indexed.ensures.0) c.ready_fit.ensures

pub returns-in-Err-fit_indexed : goal.returns-in-Err-fit_indexed
returns-in-Err-fit_indexed g c = misfits c.args.schema.now (rule_view c.args.rule) _ c.in-Err-fit_indexed.unfit c.in-Ok.ensures c.in-Err-fit_indexed.ensures
