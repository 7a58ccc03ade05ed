use Rattle.correlation_run.proofs.Followed.{each_followed, one_followed}
use Rattle.correlation_run.proofs.laws.one_follower.Goals as goal

pub returns-clause-each : goal.returns-clause-each
returns-clause-each c = each_followed c.matches_or_not.ensures

pub returns-clause-one : goal.returns-clause-one
returns-clause-one c = one_followed
