use Rattle.correlation_run.proofs.Reread.{reads_back}
use Rattle.correlation_run.proofs.laws.line_reads_back.Goals as goal

pub returns : goal.returns
returns c = reads_back
