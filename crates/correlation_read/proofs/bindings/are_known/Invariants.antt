use Rattle.std.proofs.Common.{◌≡◌, drop}
use Rattle.std.specs.List.{list_all}
use Rattle.correlation_read.specs.Binding as spec
use Rattle.correlation_read.proofs.bindings.are_known.Given as goal

abbrev pub invariant-loop-name : goal.invariant-loop-name
invariant-loop-name l = list_all (spec.is_known l.fields l.aliases) (drop l.name-index l.names) ≡ list_all (spec.is_known l.fields l.aliases) l.names
