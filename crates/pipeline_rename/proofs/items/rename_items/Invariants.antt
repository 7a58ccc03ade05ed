use Rattle.std.proofs.Common.{◌≡◌, ◌+◌, ◌++◌, map}
use Rattle.std.specs.Vec.Iter.{into_iter_items}
use Rattle.pipeline_rename.specs.Names as spec
use Rattle.pipeline_rename.specs.Renamed as renamed
use Rattle.pipeline_limits.specs.Sizes.{total, name_count, test_count}
use Rattle.pipeline_rename.proofs.items.rename_items.Given as goal

abbrev pub invariant-loop-item : goal.invariant-loop-item
invariant-loop-item l =
    (goal.iterator-loop-item).can_next l.item-iterator ×
    (goal.iterator-loop-item).is_finite l.item-iterator
    × (l.renamed ++ map (renamed.renamed_item (spec.names_for l.renaming.step.now)) (into_iter_items l.item-iterator) ≡ map (renamed.renamed_item (spec.names_for l.renaming.step.now)) l.fn.items.items)
    × (l.left.names + total (name_count) (map (renamed.renamed_item (spec.names_for l.renaming.step.now)) l.fn.items.items)
    ≡ l.fn.left.names + total (name_count) (map (renamed.renamed_item (spec.names_for l.renaming.step.now)) (into_iter_items l.item-iterator)))
    × (l.left.tests + total (test_count) (map (renamed.renamed_item (spec.names_for l.renaming.step.now)) l.fn.items.items)
    ≡ l.fn.left.tests + total (test_count) (map (renamed.renamed_item (spec.names_for l.renaming.step.now)) (into_iter_items l.item-iterator)))
