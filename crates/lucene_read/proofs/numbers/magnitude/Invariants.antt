use Rattle.std.proofs.Common.{◌^◌, ◌≤◌}
use Rattle.lucene_read.proofs.Digits.{Reads}
use Rattle.lucene_read.proofs.numbers.magnitude.Given as goal

abbrev pub invariant-loop-c : goal.invariant-loop-c
invariant-loop-c l = record { reads : Reads l.yielded l.value; small : l.value ≤ 2 ^ 63 }
