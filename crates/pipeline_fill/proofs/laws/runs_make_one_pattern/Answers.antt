use Rattle.pipeline_fill.proofs.OneRun.{one_opened}
use Rattle.pipeline_fill.proofs.laws.runs_make_one_pattern.Goals as goal

pub returns : goal.returns
returns c = one_opened
