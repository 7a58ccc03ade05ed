use Rattle.std.proofs.Common.{List}
use Rattle.sig_base.specs.declared.refusal.Place.{Place}
use Rattle.rule_run.proofs.Runs.{unfilled_made, stands_open, stands_filled}
use Rattle.rule_run.specs.Answers.{IsBare}
use Rattle.rule_run.specs.Runs.{IsMadeRule, IsFilledRule}
use Rattle.rule_run.proofs.file_rule.read_filled_rule.Goals as goal

pub returns-in-Err : goal.returns-in-Err
returns-in-Err g c =
    unfilled_made c.args.limits.now c.args.pipelines.now c.args.bytes.now _ _ (λ (values : List Place). IsBare (IsMadeRule values c.args.limits.now c.args.pipelines.now c.args.bytes.now))
    (λ (values : List Place). IsBare (IsFilledRule values c.args.limits.now c.args.pipelines.now c.args.bytes.now)) c.in-Err.fault c.in-Err.ensures

pub returns-in-Err-check_filled : goal.returns-in-Err-check_filled
returns-in-Err-check_filled g c =
    stands_open c.args.limits.now c.args.pipelines.now c.args.bytes.now _ _ c.in-Ok.rule c.in-Ok.ensures c.in-Err-check_filled.open c.in-Err-check_filled.ensures

pub returns-in-Ok-check_filled : goal.returns-in-Ok-check_filled
returns-in-Ok-check_filled g c = stands_filled c.args.limits.now c.args.pipelines.now c.args.bytes.now _ _ c.in-Ok.rule c.in-Ok.ensures c.in-Ok-check_filled.ensures
