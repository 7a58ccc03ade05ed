use Rattle.rule_run.proofs.Runs.{each_run, run_never, one_made, run_cause}
use Rattle.rule_run.proofs.laws.one_run.Goals as goal

pub returns-clause-each : goal.returns-clause-each
returns-clause-each c = each_run c.lone_rules.ensures.each c.verdicts.ensures.each

pub returns-clause-never_both : goal.returns-clause-never_both
returns-clause-never_both c = λ unbuilt limits ps given bytes rule r is too.
    run_never c.lone_rules.ensures.one limits c.verdicts.ensures.never_both c.one_verdict.ensures.list c.one_verdict.ensures.refusal bytes unbuilt ps given rule r is too

pub returns-clause-one : goal.returns-clause-one
returns-clause-one c = λ u v limits ps given bytes a b is too.
    one_made c.lone_rules.ensures.one limits c.verdicts.ensures.never_both c.one_verdict.ensures.list c.one_verdict.ensures.refusal bytes ps u.values v.values a b is.fit.rule too.fit.rule

pub returns-clause-cause : goal.returns-clause-cause
returns-clause-cause c = λ unbuilt limits ps given bytes a b is too.
    run_cause c.lone_rules.ensures.one limits c.verdicts.ensures.never_both c.one_verdict.ensures.list c.one_verdict.ensures.refusal bytes unbuilt ps given a b is too
