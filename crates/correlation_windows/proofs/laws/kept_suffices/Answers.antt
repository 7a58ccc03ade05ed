use Rattle.correlation_windows.proofs.Windowing.{suffices}
use Rattle.correlation_windows.proofs.laws.kept_suffices.Goals as goal

pub returns : goal.returns
returns c = suffices
