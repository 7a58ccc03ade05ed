use Rattle.sig_conditions.proofs.Sound.{one_reading}
use Rattle.sig_conditions.proofs.laws.one_condition.Goals as goal

pub returns : goal.returns
returns c = one_reading
