use Rattle.std.proofs.Common.{◌≡◌, take, map}
use Rattle.sig_base.specs.Folding.{fold}
use Rattle.sql_scan.proofs.sorts.folded_text.Given as goal

abbrev pub invariant-loop-c : goal.invariant-loop-c
invariant-loop-c l = l.out ≡ map fold (take l.c-index l.word)
