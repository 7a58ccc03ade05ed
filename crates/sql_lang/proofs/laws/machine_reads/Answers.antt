use Rattle.sql_lang.proofs.Alive.{ends_so}
use Rattle.sql_lang.proofs.laws.machine_reads.Goals as goal

pub returns : goal.returns
returns c = ends_so
