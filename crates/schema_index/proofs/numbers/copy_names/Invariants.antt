use Rattle.std.proofs.Common.{◌≡◌, ◌++◌, drop}
use Rattle.event_schema.specs.Schemas.{names_of}
use Rattle.schema_index.proofs.numbers.copy_names.Given as goal

abbrev pub invariant-loop-field : goal.invariant-loop-field
invariant-loop-field l = l.names ++ names_of (drop l.field-index l.fields) ≡ names_of l.fields
