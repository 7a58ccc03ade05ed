use Rattle.modifier_values.proofs.Keeping.{patterns_filled}
use Rattle.modifier_values.proofs.Plain.{patterns_without_nul, patterns_plain}
use Rattle.modifier_values.proofs.laws.patterns_have_plain_text.Goals as goal

pub returns : goal.returns
returns c = record { tests = patterns_without_nul; scalars = patterns_plain; filled = patterns_filled }
