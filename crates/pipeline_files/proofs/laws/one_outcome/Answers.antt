use Rattle.pipeline_files.proofs.Verdicts.{each_file, never_both, one_pipelines, one_causes, are_whole}
use Rattle.pipeline_files.proofs.laws.one_outcome.Goals as goal

pub returns-clause-each : goal.returns-clause-each
returns-clause-each c = each_file c.pipeline_or_refusal.ensures c.verdicts.ensures.each

pub returns-clause-never_both : goal.returns-clause-never_both
returns-clause-never_both c = never_both c.one_pipeline.ensures c.verdicts.ensures.never_both c.one_verdict.ensures.list

pub returns-clause-pipelines : goal.returns-clause-pipelines
returns-clause-pipelines c = one_pipelines c.one_pipeline.ensures c.one_verdict.ensures.list

pub returns-clause-causes : goal.returns-clause-causes
returns-clause-causes c = one_causes c.one_pipeline.ensures c.verdicts.ensures.never_both c.one_verdict.ensures.list c.one_verdict.ensures.refusal

pub returns-clause-whole : goal.returns-clause-whole
returns-clause-whole c = are_whole c.pipelines_are_whole.ensures c.texts_are_scalars.ensures
