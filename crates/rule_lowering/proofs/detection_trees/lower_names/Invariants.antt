use Rattle.std.proofs.Common.{◌≡◌, ◌++◌, map, drop}
use Rattle.std.specs.List.{flat_map}
use Rattle.backend_core.specs.View.{tree_view}
use Rattle.modifier_words.specs.declared.modifier.Joined.TheVariants.{Any}
use Rattle.rule_lowering.specs.Joining.{parts_of}
use Rattle.rule_lowering.specs.TreeOf.{number_tree}
use Rattle.schema_index.specs.Numbers.{number_of}
use Rattle.rule_lowering.proofs.detection_trees.lower_names.Given as goal

abbrev pub invariant-loop-name : goal.invariant-loop-name
invariant-loop-name l =
    map tree_view l.parts.items ++ flat_map (parts_of Any) (map (λ name. number_tree l.fields l.item.place l.item.joined l.item.tests (number_of l.fields name)) (drop l.name-index l.names))
    ≡ flat_map (parts_of Any) (map (λ name. number_tree l.fields l.item.place l.item.joined l.item.tests (number_of l.fields name)) l.names)
