use Rattle.std.proofs.Common.{◌≡◌, drop}
use Rattle.std.specs.List.{list_all}
use Rattle.correlation_read.specs.Binding as spec
use Rattle.correlation_read.proofs.bindings.are_bindable.Given as goal

abbrev pub invariant-loop-alias : goal.invariant-loop-alias
invariant-loop-alias l = list_all (spec.is_bindable l.fields l.rules l.group_by) (drop l.alias-index l.aliases) ≡ list_all (spec.is_bindable l.fields l.rules l.group_by) l.aliases
