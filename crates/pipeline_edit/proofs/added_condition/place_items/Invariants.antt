use Rattle.std.proofs.Common.{◌≡◌, ◌++◌, drop, map}
use Rattle.pipeline_edit.specs.Added.{placed}
use Rattle.pipeline_edit.proofs.added_condition.place_items.Given as goal

abbrev pub invariant-loop-item : goal.invariant-loop-item
invariant-loop-item l = l.placed ++ map (placed l.place) (drop l.item-index l.items) ≡ map (placed l.place) l.items
