use Rattle.pipeline_check.specs.Shapes.{field_entry}
use Rattle.pipeline_check.proofs.Entered.{found_entry}
use Rattle.pipeline_check.proofs.conditions.check_field_entry.Goals as goal

pub returns : goal.returns
returns c = found_entry (field_entry c.args.known) c.args.entry.now c.check_field_keyed.result c.check_field_keyed.ensures
