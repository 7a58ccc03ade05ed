use Rattle.pipeline_edit.proofs.WholeSteps.{stays_whole}
use Rattle.pipeline_edit.proofs.laws.whole_rules_stay_whole.Goals as goal

pub returns : goal.returns
returns c = stays_whole
