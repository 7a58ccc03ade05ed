use Rattle.pipeline_model.specs.Checks.{top_entry}
use Rattle.pipeline_check.proofs.Entered.{read_entry}
use Rattle.pipeline_model.proofs.checks.check_top_entry.Goals as goal

pub returns-clause-ok : goal.returns-clause-ok
returns-clause-ok c = read_entry top_entry c.args.entry.now c.check_top.result c.check_top.ensures.ok
