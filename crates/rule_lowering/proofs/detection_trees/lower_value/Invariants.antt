use Rattle.std.proofs.Common.{◌≡◌, ◌++◌, map, drop}
use Rattle.std.specs.List.{flat_map}
use Rattle.backend_core.specs.FieldAt.{kind_at}
use Rattle.backend_core.specs.View.{tree_view}
use Rattle.modifier_words.specs.declared.modifier.Joined.TheVariants.{Any}
use Rattle.rule_lowering.specs.Joining.{parts_of}
use Rattle.rule_lowering.specs.TreeOf.{test_tree}
use Rattle.rule_lowering.proofs.detection_trees.lower_value.Given as goal

abbrev pub invariant-loop-test : goal.invariant-loop-test
invariant-loop-test l =
    map tree_view l.parts.items ++ flat_map (parts_of Any) (map (test_tree l.fields l.place (kind_at l.fields l.field) l.field) (drop l.test-index l.tests))
    ≡ flat_map (parts_of Any) (map (test_tree l.fields l.place (kind_at l.fields l.field) l.field) l.tests)
