use Rattle.query_tokens.proofs.Stops.{one_stop_of}
use Rattle.lucene_lang.specs.Grammar.{spell_group}
use Rattle.lucene_lang.proofs.laws.one_stop.Goals as goal

pub returns : goal.returns
returns c = one_stop_of spell_group
