use Rattle.pipeline_run.proofs.WholeChain.{stays_whole}
use Rattle.pipeline_run.proofs.laws.whole_rules_stay_whole.Goals as goal

pub returns : goal.returns
returns c = stays_whole c.names_stay_whole.ensures c.whole_rules_stay_whole.ensures c.tests_stay_whole.ensures
