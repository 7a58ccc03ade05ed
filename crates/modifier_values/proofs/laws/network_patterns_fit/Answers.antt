use Rattle.modifier_values.proofs.NetworkPatterns.{network_fits}
use Rattle.modifier_values.proofs.laws.network_patterns_fit.Goals as goal

pub returns : goal.returns
returns c = network_fits
