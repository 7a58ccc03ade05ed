use Rattle.modifier_values.proofs.NetworkPatterns.{network_all_plain, network_plain, patterns_count}
use Rattle.modifier_values.proofs.laws.network_patterns_are_plain.Goals as goal

pub returns : goal.returns
returns c = record { tests = network_all_plain; scalars = network_plain; counted = patterns_count }
