use Rattle.modifier_values.proofs.Existing.{some_network, same_networks}
use Rattle.modifier_values.proofs.laws.one_network.Goals as goal

pub returns : goal.returns
returns c = record { some = some_network; same = same_networks }
