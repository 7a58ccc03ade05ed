use Rattle.std.proofs.Common.{◌≤◌}
use Rattle.lucene_scan.proofs.Nested.{Decides}
use Rattle.lucene_scan.proofs.refusals.opens_too_far.Given as goal

abbrev pub invariant-loop-token : goal.invariant-loop-token
invariant-loop-token l = record {
  decides : Decides l.fn.limit l.opened l.closed l.tokens l.token-index;
  opened : l.opened ≤ l.token-index;
  closed : l.closed ≤ l.token-index;
}
