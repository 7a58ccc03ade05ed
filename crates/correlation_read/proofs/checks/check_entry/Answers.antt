use Rattle.correlation_read.specs.Checks.{entry_refusal}
use Rattle.correlation_read.proofs.Entered.{judged_entry}
use Rattle.correlation_read.proofs.checks.check_entry.Goals as goal

pub returns : goal.returns
returns c = judged_entry (entry_refusal c.args.kind) c.args.entry.now c.check_keyed.result c.check_keyed.ensures
