use Rattle.sql_lang.proofs.Judged.{not_both_of}
use Rattle.sql_lang.proofs.Told.{bytes_not_both}
use Rattle.sql_lang.proofs.verdict.no_refused_query.Goals as goal

pub returns : goal.returns
returns c = record { characters = not_both_of; bytes = bytes_not_both }
