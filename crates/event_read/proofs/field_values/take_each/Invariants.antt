use Rattle.std.proofs.Common.{◌≡◌}
use Rattle.event_read.proofs.EachLemmas.{each_at}
use Rattle.event_read.specs.Takes as spec
use Rattle.event_schema.specs.Events.{IsOfKind}
use Rattle.event_schema.specs.Lists.{EachOf}
use Rattle.serde_json.specs.View.{items_view}
use Rattle.event_read.proofs.field_values.take_each.Given as goal

abbrev pub invariant-loop-item : goal.invariant-loop-item
invariant-loop-item l =
    (spec.before l.values.items (each_at l.kind l.items l.item-index) ≡ spec.take_each l.kind (items_view l.items))
    × EachOf (IsOfKind l.kind) l.values.items
