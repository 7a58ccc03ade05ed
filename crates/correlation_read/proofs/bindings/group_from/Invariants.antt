use Rattle.std.proofs.Common.{◌≡◌, take}
use Rattle.correlation_read.specs.Sources as sources
use Rattle.correlation_read.proofs.bindings.group_from.Given as goal

abbrev pub invariant-loop-source : goal.invariant-loop-source
invariant-loop-source l = l.group ≡ sources.group_from (take l.source-index l.all) l.numbers
