use Rattle.correlation_read.proofs.Documents.{each_read}
use Rattle.correlation_read.proofs.laws.one_correlation.Goals as goal

pub returns-clause-each : goal.returns-clause-each
returns-clause-each c = each_read
