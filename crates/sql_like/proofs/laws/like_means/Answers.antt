use Rattle.sql_like.proofs.Means.{like_is}
use Rattle.sql_like.proofs.laws.like_means.Goals as goal

pub returns : goal.returns
returns c = like_is
