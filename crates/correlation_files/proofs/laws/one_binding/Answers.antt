use Rattle.correlation_files.proofs.Verdicts.{each_judged, one_judged}
use Rattle.correlation_files.proofs.laws.one_binding.Goals as goal

pub returns-clause-each : goal.returns-clause-each
returns-clause-each c = each_judged c.one_bound.ensures.each

pub returns-clause-one : goal.returns-clause-one
returns-clause-one c = one_judged c.one_bound.ensures.one c.one_bound.ensures.never_both
