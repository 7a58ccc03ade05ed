use Rattle.std.proofs.Common.{◌≡◌, ◌+◌, ◌++◌, map}
use Rattle.std.specs.Vec.Iter.{into_iter_items}
use Rattle.pipeline_rename.specs.Names as spec
use Rattle.pipeline_rename.specs.Renamed as renamed
use Rattle.pipeline_limits.specs.Sizes.{total, name_count, test_count}
use Rattle.pipeline_rename.proofs.items.rename_alternatives.Given as goal

abbrev pub invariant-loop-items : goal.invariant-loop-items
invariant-loop-items l =
    (goal.iterator-loop-items).can_next l.items-iterator ×
    (goal.iterator-loop-items).is_finite l.items-iterator
    × (l.renamed ++ map (renamed.renamed_items (spec.names_for l.renaming.step.now)) (into_iter_items l.items-iterator) ≡ map (renamed.renamed_items (spec.names_for l.renaming.step.now)) l.fn.alternatives.items)
    × (l.left.names + total (total name_count) (map (renamed.renamed_items (spec.names_for l.renaming.step.now)) l.fn.alternatives.items)
    ≡ l.fn.left.names + total (total name_count) (map (renamed.renamed_items (spec.names_for l.renaming.step.now)) (into_iter_items l.items-iterator)))
    × (l.left.tests + total (total test_count) (map (renamed.renamed_items (spec.names_for l.renaming.step.now)) l.fn.alternatives.items)
    ≡ l.fn.left.tests + total (total test_count) (map (renamed.renamed_items (spec.names_for l.renaming.step.now)) (into_iter_items l.items-iterator)))
