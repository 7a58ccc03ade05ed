use Rattle.std.proofs.Common.{◌≤◌}
use Rattle.sql_scan.proofs.Nested.{DecidesNots}
use Rattle.sql_scan.proofs.refusals.nots_too_many.Given as goal

abbrev pub invariant-loop-token : goal.invariant-loop-token
invariant-loop-token l = record {
  decides : DecidesNots l.fn.limit l.count l.tokens l.token-index;
  count : l.count ≤ l.token-index;
}
