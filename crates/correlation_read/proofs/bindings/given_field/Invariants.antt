use Rattle.std.proofs.Common.{◌≡◌, drop}
use Rattle.std.specs.Prelude.{find}
use Rattle.correlation_read.specs.Binding.{is_rule}
use Rattle.correlation_read.proofs.bindings.given_field.Given as goal

abbrev pub invariant-loop-entry : goal.invariant-loop-entry
invariant-loop-entry l = find (is_rule l.rule) l.entries ≡ find (is_rule l.rule) (drop l.entry-index l.entries)
