use Rattle.std.proofs.Common.{◌≡◌, ◌++◌, map, drop}
use Rattle.std.specs.List.{flat_map}
use Rattle.backend_core.specs.View.{tree_view}
use Rattle.rule_lowering.specs.Joining.{parts_of}
use Rattle.rule_lowering.specs.TreeOf.{keyword_tree}
use Rattle.rule_lowering.proofs.detection_trees.lower_keywords.Given as goal

abbrev pub invariant-loop-value : goal.invariant-loop-value
invariant-loop-value l =
    map tree_view l.parts.items ++ flat_map (parts_of l.item.joined) (map (keyword_tree l.fields l.item.place) (drop l.value-index l.item.tests))
    ≡ flat_map (parts_of l.item.joined) (map (keyword_tree l.fields l.item.place) l.item.tests)
