use Rattle.std.proofs.Common.{List}
use Rattle.std.specs.Prelude.{Some}
use Rattle.sig_base.specs.declared.refusal.Place.{Place}
use Rattle.rule_run.proofs.Runs.{unfit_made_at, unfit_given, fits_given}
use Rattle.rule_run.specs.Answers.{IsBare}
use Rattle.rule_run.specs.Runs.{IsFilledRule, IsFit}
use Rattle.rule_run.proofs.rule_under_schema.rule_under.Goals as goal

pub returns-in-Err : goal.returns-in-Err
returns-in-Err g c =
    unfit_made_at c.args.limits.now c.args.pipelines.now c.args.bytes.now _ _ (Some c.args.schema.now) (λ (values : List Place). IsBare (IsFilledRule values c.args.limits.now c.args.pipelines.now c.args.bytes.now))
    (λ (values : List Place). IsBare (IsFit values c.args.limits.now c.args.pipelines.now (Some c.args.schema.now) c.args.bytes.now)) c.in-Err.fault c.in-Err.ensures

pub returns-in-Err-fit_schema : goal.returns-in-Err-fit_schema
returns-in-Err-fit_schema g c =
    unfit_given c.args.limits.now c.args.pipelines.now c.args.bytes.now _ _ c.in-Ok.rule c.in-Ok.ensures c.args.schema.now c.in-Err-fit_schema.unfit c.in-Err-fit_schema.ensures

pub returns-in-Ok-fit_schema : goal.returns-in-Ok-fit_schema
returns-in-Ok-fit_schema g c = fits_given c.args.limits.now c.args.pipelines.now c.args.bytes.now _ _ c.in-Ok.rule c.in-Ok.ensures c.args.schema.now c.in-Ok-fit_schema.ensures
