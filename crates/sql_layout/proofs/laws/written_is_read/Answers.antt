use Rattle.sql_layout.proofs.Read.{written_reads}
use Rattle.sql_layout.proofs.laws.written_is_read.Goals as goal

pub returns : goal.returns
returns c = written_reads
