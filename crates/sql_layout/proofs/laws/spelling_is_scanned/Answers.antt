use Rattle.sql_layout.proofs.Scanned.{query_scanned}
use Rattle.sql_layout.proofs.laws.spelling_is_scanned.Goals as goal

pub returns : goal.returns
returns c = query_scanned
