use Rattle.pipeline_run.proofs.SomePipeline.{pipeline_some}
use Rattle.pipeline_run.proofs.built.pipeline_or_refusal.Goals as goal

pub returns : goal.returns
returns c = λ unbuilt. pipeline_some unbuilt (c.tests_or_refusal.ensures unbuilt)
