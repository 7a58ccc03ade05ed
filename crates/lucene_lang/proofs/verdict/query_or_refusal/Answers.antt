use Rattle.lucene_lang.proofs.Judged.{has_verdict_of, verdict_is}
use Rattle.lucene_lang.proofs.Told.{bytes_told}
use Rattle.lucene_lang.proofs.verdict.query_or_refusal.Goals as goal

pub returns : goal.returns
returns c = record { characters = has_verdict_of; bytes = bytes_told; computed = verdict_is }
