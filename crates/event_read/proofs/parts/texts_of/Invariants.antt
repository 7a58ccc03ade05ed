use Rattle.std.proofs.Common.{◌≡◌, ◌++◌, drop}
use Rattle.event_read.specs.SchemaOf.{texts_of}
use Rattle.serde_json.specs.View.{items_view}
use Rattle.event_read.proofs.parts.texts_of.Given as goal

abbrev pub invariant-loop-item : goal.invariant-loop-item
invariant-loop-item l = l.texts ++ texts_of (items_view (drop l.item-index l.items)) ≡ texts_of (items_view l.items)
