use Rattle.correlation_windows.proofs.Windowing.{goes}
use Rattle.correlation_windows.proofs.laws.kept_goes.Goals as goal

pub returns : goal.returns
returns c = goes
