use Rattle.std.proofs.Common.{◌≡◌, drop}
use Rattle.std.specs.List.{list_any}
use Rattle.event_read.specs.SchemaOf.{is_twin_named}
use Rattle.event_read.proofs.repeats.has_twin.Given as goal

abbrev pub invariant-loop-field : goal.invariant-loop-field
invariant-loop-field l = list_any (is_twin_named l.names.keys) (drop l.field-index l.fields) ≡ list_any (is_twin_named l.names.keys) l.fields
