use Rattle.std.proofs.Common.{◌≡◌, ◌↔◌, drop}
use Rattle.detection_eval.specs.Ready.{NumberedItemHolds}
use Rattle.event_schema.specs.Lists.{EachOf}
use Rattle.detection_eval.proofs.item_truth.each_item_holds.Given as goal

abbrev pub invariant-loop-item : goal.invariant-loop-item
invariant-loop-item l =
    (l.finders ≡ l.fn.finders)
    × (EachOf (NumberedItemHolds l.fn.finders l.searched l.event.values) (drop l.item-index l.items)
    ↔ EachOf (NumberedItemHolds l.fn.finders l.searched l.event.values) l.items)
