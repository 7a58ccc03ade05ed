use Rattle.pipeline_check.specs.Shapes.{source_entry}
use Rattle.pipeline_check.proofs.Entered.{found_entry}
use Rattle.pipeline_check.proofs.conditions.check_source_entry.Goals as goal

pub returns : goal.returns
returns c = found_entry (source_entry c.args.known) c.args.entry.now c.check_source_keyed.result c.check_source_keyed.ensures
