use Rattle.pipeline_fill.proofs.ChosenLeft.{filled_done}
use Rattle.pipeline_fill.proofs.laws.fillings_are_filled.Goals as goal

pub returns : goal.returns
returns c = λ vars action parts. filled_done vars action parts
