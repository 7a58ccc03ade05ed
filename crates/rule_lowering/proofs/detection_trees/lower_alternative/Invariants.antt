use Rattle.std.proofs.Common.{◌≡◌, ◌++◌, map, drop}
use Rattle.std.specs.List.{flat_map}
use Rattle.backend_core.specs.View.{tree_view}
use Rattle.modifier_words.specs.declared.modifier.Joined.TheVariants.{All}
use Rattle.rule_lowering.specs.Joining.{parts_of}
use Rattle.rule_lowering.specs.TreeOf.{item_tree}
use Rattle.rule_lowering.proofs.detection_trees.lower_alternative.Given as goal

abbrev pub invariant-loop-item : goal.invariant-loop-item
invariant-loop-item l =
    map tree_view l.parts.items ++ flat_map (parts_of All) (map (item_tree l.fields) (drop l.item-index l.items))
    ≡ flat_map (parts_of All) (map (item_tree l.fields) l.items)
