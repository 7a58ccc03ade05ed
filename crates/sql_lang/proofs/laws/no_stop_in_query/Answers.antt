use Rattle.query_tokens.proofs.Stops.{no_stop_of}
use Rattle.sql_lang.specs.Grammar.{spell_query}
use Rattle.sql_lang.proofs.laws.no_stop_in_query.Goals as goal

pub returns : goal.returns
returns c = no_stop_of spell_query
