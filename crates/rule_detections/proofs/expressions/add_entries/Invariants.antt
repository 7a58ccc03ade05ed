use Rattle.std.proofs.Common.{◌≡◌, ◌++◌, drop}
use Rattle.std.specs.List.{flat_map}
use Rattle.rule_detections.specs.Expressions.{item_expressions}
use Rattle.yaml_tree.specs.View.{entries_view}
use Rattle.rule_detections.proofs.expressions.add_entries.Given as goal

abbrev pub invariant-loop-entry : goal.invariant-loop-entry
invariant-loop-entry l =
    l.all ++ flat_map (item_expressions l.limits) (entries_view (drop l.entry-index l.entries))
    ≡ l.initial.all ++ flat_map (item_expressions l.limits) (entries_view l.entries)
