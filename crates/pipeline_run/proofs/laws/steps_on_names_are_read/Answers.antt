use Rattle.pipeline_run.proofs.ViewLaw.{view_means}
use Rattle.pipeline_run.proofs.laws.steps_on_names_are_read.Goals as goal

pub returns : goal.returns
returns c = λ steps rule fields row. view_means fields row steps rule
