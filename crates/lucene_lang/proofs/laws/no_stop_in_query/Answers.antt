use Rattle.query_tokens.proofs.Stops.{no_stop_of}
use Rattle.lucene_lang.specs.Grammar.{spell_group}
use Rattle.lucene_lang.proofs.laws.no_stop_in_query.Goals as goal

pub returns : goal.returns
returns c = no_stop_of spell_group
