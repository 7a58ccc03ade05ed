use Rattle.std.proofs.Common.{◌≡◌, ◌++◌, map, drop}
use Rattle.std.specs.List.{flat_map}
use Rattle.backend_core.specs.FieldAt.{kind_at}
use Rattle.backend_core.specs.View.{tree_view}
use Rattle.modifier_words.specs.declared.modifier.Joined.TheVariants.{Any}
use Rattle.rule_lowering.specs.Joining.{parts_of}
use Rattle.rule_lowering.specs.TreeOf.{value_tree}
use Rattle.rule_lowering.proofs.detection_trees.lower_keyword.Given as goal

abbrev pub invariant-loop-field : goal.invariant-loop-field
invariant-loop-field l =
    map tree_view l.parts.items ++ flat_map (parts_of Any) (map (λ field. value_tree l.fields l.place (kind_at l.fields field) field l.tests) (drop l.field-index l.searched))
    ≡ flat_map (parts_of Any) (map (λ field. value_tree l.fields l.place (kind_at l.fields field) field l.tests) l.searched)
