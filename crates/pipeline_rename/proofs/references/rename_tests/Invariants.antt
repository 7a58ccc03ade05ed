use Rattle.std.proofs.Common.{◌≡◌, ◌+◌, ◌++◌, length}
use Rattle.std.specs.List.{flat_map}
use Rattle.std.specs.Vec.Iter.{into_iter_items}
use Rattle.pipeline_rename.specs.Names as spec
use Rattle.pipeline_rename.specs.Renamed as renamed
use Rattle.pipeline_rename.proofs.references.rename_tests.Given as goal

abbrev pub invariant-loop-test : goal.invariant-loop-test
invariant-loop-test l =
    (goal.iterator-loop-test).can_next l.test-iterator ×
    (goal.iterator-loop-test).is_finite l.test-iterator
    × (l.all.items ++ flat_map (renamed.renamed_test (spec.names_for l.renaming.step.now)) (into_iter_items l.test-iterator)
    ≡ flat_map (renamed.renamed_test (spec.names_for l.renaming.step.now)) l.fn.tests.items)
    × (l.left + length (flat_map (renamed.renamed_test (spec.names_for l.renaming.step.now)) l.fn.tests.items)
    ≡ l.fn.left + length (flat_map (renamed.renamed_test (spec.names_for l.renaming.step.now)) (into_iter_items l.test-iterator)))
