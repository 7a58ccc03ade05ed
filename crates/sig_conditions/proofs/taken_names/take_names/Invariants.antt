use Rattle.std.proofs.Common.{◌≡◌, ◌++◌, drop}
use Rattle.sig_conditions.specs.Taken.{taken, taken_from}
use Rattle.sig_conditions.proofs.taken_names.take_names.Given as goal

abbrev pub invariant-loop-number : goal.invariant-loop-number
invariant-loop-number l = l.all ++ taken_from l.number l.selector (drop l.number l.names) ≡ taken l.selector l.names
