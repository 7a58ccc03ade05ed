use Rattle.sql_lang.proofs.Complete.{one_spelled}
use Rattle.sql_lang.proofs.laws.one_spelling.Goals as goal

pub returns : goal.returns
returns c = one_spelled
