use Rattle.std.proofs.Common.{◌≡◌, ◌++◌, drop}
use Rattle.sig_base.proofs.sequence.SequenceTryCopy.try_copy.Given as goal

abbrev pub invariant-loop-item : goal.invariant-loop-item
invariant-loop-item g l = l.copies ++ drop l.item-index l.item-items ≡ l.self
