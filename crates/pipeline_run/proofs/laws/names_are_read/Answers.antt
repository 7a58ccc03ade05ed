use Rattle.pipeline_run.proofs.Naming.{are_read}
use Rattle.pipeline_run.proofs.laws.names_are_read.Goals as goal

pub returns : goal.returns
returns c = are_read c.steps_on_names_are_read.ensures
