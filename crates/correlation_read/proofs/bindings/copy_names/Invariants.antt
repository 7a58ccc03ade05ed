use Rattle.std.proofs.Common.{◌≡◌, take}
use Rattle.correlation_read.specs.Binding as spec
use Rattle.correlation_read.proofs.bindings.copy_names.Given as goal

abbrev pub invariant-loop-alias : goal.invariant-loop-alias
invariant-loop-alias l = l.names ≡ spec.names_of (take l.alias-index l.aliases)
