use Rattle.pipeline_run.proofs.WholeSteps.{pipeline_whole}
use Rattle.pipeline_run.proofs.built.pipelines_are_whole.Goals as goal

pub returns : goal.returns
returns c = λ unbuilt. pipeline_whole unbuilt (c.plain_tests.ensures unbuilt) c.some_test.ensures c.keyword_tests.ensures
