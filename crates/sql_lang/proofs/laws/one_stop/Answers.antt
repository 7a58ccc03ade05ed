use Rattle.query_tokens.proofs.Stops.{one_stop_of}
use Rattle.sql_lang.specs.Grammar.{spell_query}
use Rattle.sql_lang.proofs.laws.one_stop.Goals as goal

pub returns : goal.returns
returns c = one_stop_of spell_query
