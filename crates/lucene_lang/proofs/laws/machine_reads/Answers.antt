use Rattle.lucene_lang.proofs.Alive.{ends_so}
use Rattle.lucene_lang.proofs.laws.machine_reads.Goals as goal

pub returns : goal.returns
returns c = ends_so
