use Rattle.modifier_windash.proofs.Fitting.{choices_in, choices_out}
use Rattle.modifier_windash.proofs.laws.choices_fit.Goals as goal

pub returns : goal.returns
returns c = λ parts text cased. (choices_in parts text cased, choices_out parts text cased)
