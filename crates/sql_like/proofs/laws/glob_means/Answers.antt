use Rattle.sql_like.proofs.Means.{glob_is}
use Rattle.sql_like.proofs.laws.glob_means.Goals as goal

pub returns : goal.returns
returns c = glob_is
