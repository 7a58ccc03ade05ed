use Rattle.std.proofs.Common.{◌≡◌, drop}
use Rattle.event_read.specs.SchemaOf.{all_items, is_field}
use Rattle.serde_json.specs.View.{items_view}
use Rattle.event_read.proofs.shapes.all_fields.Given as goal

abbrev pub invariant-loop-item : goal.invariant-loop-item
invariant-loop-item l = all_items is_field (items_view (drop l.item-index l.items)) ≡ all_items is_field (items_view l.items)
