use Rattle.lucene_scan.proofs.Judged.{Decides}
use Rattle.lucene_scan.proofs.refusals.first_outside.Given as goal

abbrev pub invariant-loop-token : goal.invariant-loop-token
invariant-loop-token l = Decides l.ranged l.tokens l.token-index
