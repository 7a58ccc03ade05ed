use Rattle.std.proofs.Common.{◌≡◌, ◌++◌, map, drop}
use Rattle.std.specs.List.{flat_map}
use Rattle.backend_core.specs.View.{tree_view}
use Rattle.rule_lowering.specs.Joining.{parts_of}
use Rattle.rule_lowering.specs.TreeOf.{numbered_tree}
use Rattle.rule_lowering.proofs.formula.lower_taken.Given as goal

abbrev pub invariant-loop-number : goal.invariant-loop-number
invariant-loop-number l =
    map tree_view l.parts.items ++ flat_map (parts_of l.joined) (map (numbered_tree l.fields l.detections) (drop l.number-index l.taken))
    ≡ flat_map (parts_of l.joined) (map (numbered_tree l.fields l.detections) l.taken)
