use Rattle.modifier_values.proofs.Choosing.{choices_all_plain, choices_plain}
use Rattle.modifier_values.proofs.laws.choices_are_plain.Goals as goal

pub returns : goal.returns
returns c = record { tests = choices_all_plain; scalars = choices_plain }
