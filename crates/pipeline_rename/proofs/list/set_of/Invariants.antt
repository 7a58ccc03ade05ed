use Rattle.std.proofs.Common.{take}
use Rattle.pipeline_rename.specs.Known.{AreKnown}
use Rattle.pipeline_rename.proofs.list.set_of.Given as goal

abbrev pub invariant-loop-name : goal.invariant-loop-name
invariant-loop-name l = AreKnown (take l.name-index l.names) l.known
