use Rattle.modifier_windash.proofs.Counting.{counted}
use Rattle.modifier_windash.proofs.laws.choices_are_counted.Goals as goal

pub returns : goal.returns
returns c = λ parts. counted parts
