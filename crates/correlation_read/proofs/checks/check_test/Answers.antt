use Rattle.correlation_read.specs.Checks.{test_refusal}
use Rattle.correlation_read.proofs.Entered.{judged_entry}
use Rattle.correlation_read.proofs.checks.check_test.Goals as goal

pub returns : goal.returns
returns c = judged_entry (test_refusal c.args.kind) c.args.entry.now c.check_tested.result c.check_tested.ensures
