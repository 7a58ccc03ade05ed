use Rattle.pipeline_fill.proofs.WholeTests.{stays_whole}
use Rattle.pipeline_fill.proofs.laws.tests_stay_whole.Goals as goal

pub returns : goal.returns
returns c = λ limits vars step rule own whole none. stays_whole vars step own limits rule whole none
