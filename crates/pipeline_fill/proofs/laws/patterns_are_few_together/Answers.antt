use Rattle.pipeline_fill.proofs.WholeTests.{few_together}
use Rattle.pipeline_fill.proofs.laws.patterns_are_few_together.Goals as goal

pub returns : goal.returns
returns c = λ limits vars step place ds none. few_together vars step limits place ds none
