use Rattle.pipeline_run.proofs.OneStep.{pipeline_one}
use Rattle.pipeline_run.proofs.built.one_pipeline.Goals as goal

pub returns : goal.returns
returns c = pipeline_one c.one_tests.ensures
