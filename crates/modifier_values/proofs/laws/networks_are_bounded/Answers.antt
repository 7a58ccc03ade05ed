use Rattle.modifier_values.proofs.NetworkPatterns.{network_bits}
use Rattle.modifier_values.proofs.laws.networks_are_bounded.Goals as goal

pub returns : goal.returns
returns c = record { bits = network_bits; prefix = λ text n is. is.few }
