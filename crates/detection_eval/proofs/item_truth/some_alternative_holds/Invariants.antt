use Rattle.std.proofs.Common.{◌≡◌, ◌↔◌, drop}
use Rattle.detection_eval.specs.Ready.{NumberedItemHolds}
use Rattle.event_schema.specs.Lists.{EachOf, SomeOf}
use Rattle.detection_eval.proofs.item_truth.some_alternative_holds.Given as goal

abbrev pub invariant-loop-items : goal.invariant-loop-items
invariant-loop-items l =
    (l.finders ≡ l.fn.finders)
    × (SomeOf (λ items. EachOf (NumberedItemHolds l.fn.finders l.searched l.event.values) items) (drop l.items-index l.alternatives)
    ↔ SomeOf (λ items. EachOf (NumberedItemHolds l.fn.finders l.searched l.event.values) items) l.alternatives)
