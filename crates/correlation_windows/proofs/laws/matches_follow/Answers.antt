use Rattle.correlation_windows.proofs.Following.{follows}
use Rattle.correlation_windows.proofs.laws.matches_follow.Goals as goal

pub returns : goal.returns
returns c = follows
