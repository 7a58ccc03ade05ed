use Rattle.sql_scan.proofs.Judged.{Decides}
use Rattle.sql_scan.proofs.refusals.first_other.Given as goal

abbrev pub invariant-loop-token : goal.invariant-loop-token
invariant-loop-token l = Decides l.tokens l.token-index
