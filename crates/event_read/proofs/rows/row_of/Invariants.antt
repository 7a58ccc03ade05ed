use Rattle.std.proofs.Common.{◌≡◌, take}
use Rattle.event_read.proofs.RowLemmas.{behind, rest_at}
use Rattle.event_read.specs.EventOf as spec
use Rattle.event_schema.specs.Events.{IsEvent}
use Rattle.serde_json.specs.View.{view}
use Rattle.event_read.proofs.rows.row_of.Given as goal

abbrev pub invariant-loop-field : goal.invariant-loop-field
invariant-loop-field l =
    (behind l.values.items (rest_at l.fields l.field-index (view l.value)) ≡ spec.row_of l.fields (view l.value))
    × IsEvent (take l.field-index l.fields) l.values.items
