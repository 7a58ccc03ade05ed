use Rattle.modifier_values.proofs.Readable.{expression_plain}
use Rattle.modifier_values.proofs.laws.expressions_are_plain.Goals as goal

pub returns : goal.returns
returns c = expression_plain
