use Rattle.lucene_lang.proofs.Judged.{not_both_of}
use Rattle.lucene_lang.proofs.Told.{bytes_not_both}
use Rattle.lucene_lang.proofs.verdict.no_refused_query.Goals as goal

pub returns : goal.returns
returns c = record { characters = not_both_of; bytes = bytes_not_both }
