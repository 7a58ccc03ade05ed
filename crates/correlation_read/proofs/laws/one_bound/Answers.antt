use Rattle.correlation_read.proofs.Binds.{each_bound, bound_one, bound_there}
use Rattle.correlation_read.proofs.laws.one_bound.Goals as goal

pub returns-clause-each : goal.returns-clause-each
returns-clause-each c = each_bound

pub returns-clause-one : goal.returns-clause-one
returns-clause-one c = bound_one

pub returns-clause-there : goal.returns-clause-there
returns-clause-there c = bound_there
