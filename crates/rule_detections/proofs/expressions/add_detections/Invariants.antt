use Rattle.std.proofs.Common.{◌≡◌, ◌++◌, drop}
use Rattle.std.specs.Prelude.{filter}
use Rattle.std.specs.List.{flat_map}
use Rattle.rule_detections.specs.Detections.{is_no_condition}
use Rattle.rule_detections.specs.Expressions.{detection_expressions}
use Rattle.yaml_tree.specs.View.{entries_view}
use Rattle.rule_detections.proofs.expressions.add_detections.Given as goal

abbrev pub invariant-loop-entry : goal.invariant-loop-entry
invariant-loop-entry l =
    l.all ++ flat_map (detection_expressions l.limits) (filter is_no_condition (entries_view (drop l.entry-index l.entries)))
    ≡ l.initial.all ++ flat_map (detection_expressions l.limits) (filter is_no_condition (entries_view l.entries))
