use Rattle.modifier_values.proofs.Existing.{some_patterns, same_patterns}
use Rattle.modifier_values.proofs.laws.one_list_of_patterns.Goals as goal

pub returns : goal.returns
returns c = record { some = some_patterns; same = same_patterns }
