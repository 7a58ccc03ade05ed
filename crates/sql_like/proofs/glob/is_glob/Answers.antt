use Rattle.sql_like.proofs.Fronts.{same_test}
use Rattle.sql_like.proofs.glob.is_glob.Goals as goal

pub returns : goal.returns
returns c = same_test c.matches_whole.result _ c.matches_whole.ensures
