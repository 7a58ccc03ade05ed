use Rattle.std.proofs.Common.{refl}
use Rattle.sql_layout.proofs.Numbers.{decimal_reads}
use Rattle.sql_layout.proofs.leaves.leaves_are_read.Goals as goal

pub returns-clause-number : goal.returns-clause-number
returns-clause-number c = λ fields field op z k named fits. let value = (decimal_reads z fits).1 in rw (named, value) refl
