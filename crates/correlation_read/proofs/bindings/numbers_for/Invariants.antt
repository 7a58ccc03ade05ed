use Rattle.std.proofs.Common.{◌≡◌, take}
use Rattle.correlation_read.specs.Sources as sources
use Rattle.correlation_read.proofs.bindings.numbers_for.Given as goal

abbrev pub invariant-loop-alias : goal.invariant-loop-alias
invariant-loop-alias l = l.all.items ≡ sources.numbers_for l.fields (take l.alias-index l.aliases) l.rule
