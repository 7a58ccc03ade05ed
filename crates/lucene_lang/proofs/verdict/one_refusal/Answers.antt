use Rattle.lucene_lang.proofs.Judged.{one_refusal_of}
use Rattle.lucene_lang.proofs.Told.{bytes_one_refusal}
use Rattle.lucene_lang.proofs.verdict.one_refusal.Goals as goal

pub returns : goal.returns
returns c = record { characters = one_refusal_of; bytes = bytes_one_refusal }
