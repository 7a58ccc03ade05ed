use Rattle.pipeline_model.specs.Checks.{entry_refusal}
use Rattle.pipeline_check.proofs.Entered.{found_entry}
use Rattle.pipeline_model.proofs.checks.check_entry.Goals as goal

pub returns : goal.returns
returns c = found_entry (entry_refusal c.args.chosen c.args.kind) c.args.entry.now c.check_keyed.result c.check_keyed.ensures
