use Rattle.std.proofs.Common.{◌≡◌, ◌++◌, map, drop}
use Rattle.std.specs.List.{flat_map}
use Rattle.backend_core.specs.FieldAt.{kind_at}
use Rattle.backend_core.specs.View.{tree_view}
use Rattle.rule_lowering.specs.Joining.{parts_of}
use Rattle.rule_lowering.specs.TreeOf.{value_tree}
use Rattle.rule_lowering.proofs.detection_trees.lower_values.Given as goal

abbrev pub invariant-loop-value : goal.invariant-loop-value
invariant-loop-value l =
    map tree_view l.parts.items ++ flat_map (parts_of l.joined) (map (value_tree l.fields l.place (kind_at l.fields l.field) l.field) (drop l.value-index l.values))
    ≡ flat_map (parts_of l.joined) (map (value_tree l.fields l.place (kind_at l.fields l.field) l.field) l.values)
