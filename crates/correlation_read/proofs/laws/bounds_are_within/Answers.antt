use Rattle.correlation_read.proofs.Bounds.{few}
use Rattle.correlation_read.proofs.Documents.{read_within}
use Rattle.correlation_read.proofs.laws.bounds_are_within.Goals as goal

pub returns-clause-read : goal.returns-clause-read
returns-clause-read c = read_within

pub returns-clause-bound : goal.returns-clause-bound
returns-clause-bound c = few
