use Rattle.std.proofs.Common.{◌≡◌, ◌++◌, map, drop}
use Rattle.std.specs.List.{flat_map}
use Rattle.backend_core.specs.View.{tree_view}
use Rattle.modifier_words.specs.declared.modifier.Joined.TheVariants.{Any}
use Rattle.rule_lowering.specs.Joining.{parts_of}
use Rattle.rule_lowering.specs.TreeOf.{alternative_tree}
use Rattle.rule_lowering.proofs.detection_trees.lower_detection.Given as goal

abbrev pub invariant-loop-alternative : goal.invariant-loop-alternative
invariant-loop-alternative l =
    map tree_view l.parts.items ++ flat_map (parts_of Any) (map (alternative_tree l.fields) (drop l.alternative-index l.detection.alternatives))
    ≡ flat_map (parts_of Any) (map (alternative_tree l.fields) l.detection.alternatives)
