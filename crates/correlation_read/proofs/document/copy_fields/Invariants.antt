use Rattle.std.proofs.Common.{◌≡◌, take, map}
use Rattle.yaml_tree.specs.View.{entries_view}
use Rattle.correlation_read.specs.Correlations.{alias_field_of}
use Rattle.correlation_read.proofs.document.copy_fields.Given as goal

abbrev pub invariant-loop-entry : goal.invariant-loop-entry
invariant-loop-entry l = l.fields ≡ map alias_field_of (entries_view (take l.entry-index l.entries))
