use Rattle.std.proofs.Common.{◌≡◌, drop}
use Rattle.std.specs.List.{list_all}
use Rattle.correlation_read.specs.Binding as spec
use Rattle.correlation_read.proofs.bindings.has_fields.Given as goal

abbrev pub invariant-loop-entry : goal.invariant-loop-entry
invariant-loop-entry l = list_all (λ f. spec.is_field l.fields f.field) (drop l.entry-index l.entries) ≡ list_all (λ f. spec.is_field l.fields f.field) l.entries
