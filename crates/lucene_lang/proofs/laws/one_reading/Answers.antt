use Rattle.lucene_lang.proofs.Read.{one_reading_of}
use Rattle.lucene_lang.proofs.laws.one_reading.Goals as goal

pub returns : goal.returns
returns c = one_reading_of
