use Rattle.std.proofs.Common.{◌≡◌, ◌+◌, ◌++◌, length, map}
use Rattle.std.specs.Vec.Iter.{into_iter_items}
use Rattle.pipeline_rename.specs.Names as spec
use Rattle.pipeline_rename.specs.Renamed as renamed
use Rattle.pipeline_limits.specs.Sizes.{total}
use Rattle.pipeline_rename.proofs.references.rename_values.Given as goal

abbrev pub invariant-loop-tests : goal.invariant-loop-tests
invariant-loop-tests l =
    (goal.iterator-loop-tests).can_next l.tests-iterator ×
    (goal.iterator-loop-tests).is_finite l.tests-iterator
    × (l.renamed ++ map (renamed.renamed_value (spec.names_for l.renaming.step.now)) (into_iter_items l.tests-iterator)
    ≡ map (renamed.renamed_value (spec.names_for l.renaming.step.now)) l.fn.values.items)
    × (l.left + total length (map (renamed.renamed_value (spec.names_for l.renaming.step.now)) l.fn.values.items)
    ≡ l.fn.left + total length (map (renamed.renamed_value (spec.names_for l.renaming.step.now)) (into_iter_items l.tests-iterator)))
