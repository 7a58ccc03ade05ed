use Rattle.pipeline_rename.proofs.WholeNames.{stays_whole}
use Rattle.pipeline_rename.proofs.laws.names_stay_whole.Goals as goal

pub returns : goal.returns
returns c = stays_whole
