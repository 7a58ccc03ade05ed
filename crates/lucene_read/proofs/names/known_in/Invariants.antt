use Rattle.std.proofs.Common.{◌≡◌, drop}
use Rattle.lucene_read.specs.Known.{known_in}
use Rattle.lucene_read.proofs.names.known_in.Given as goal

abbrev pub invariant-loop-i : goal.invariant-loop-i
invariant-loop-i l = known_in l.i (drop l.i l.fields) l.name ≡ known_in 0 l.fields l.name
