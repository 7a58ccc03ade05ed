use Rattle.std.proofs.Common.{sym}
use Rattle.rule_schema.proofs.fit.fit_schema.Goals as goal

pub returns-in-Some : goal.returns-in-Some
returns-in-Some c = sym (rw c.as_slice.ensures at rw c.as_slice-2.ensures at c.in-Some.ensures)
