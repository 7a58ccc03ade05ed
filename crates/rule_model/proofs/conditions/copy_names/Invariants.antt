use Rattle.std.proofs.Common.{◌≡◌, ◌++◌, drop, map}
use Rattle.std.specs.Prelude.{not, filter, codes}
use Rattle.yaml_tree.specs.View.{entries_view}
use Rattle.rule_detections.specs.Detections.{is_key}
use Rattle.rule_model.proofs.conditions.copy_names.Given as goal

abbrev pub invariant-loop-entry : goal.invariant-loop-entry
invariant-loop-entry l =
    l.names ++ map (λ e. e.key) (filter (λ e. not (is_key (codes "condition") e)) (entries_view (drop l.entry-index l.entries)))
    ≡ map (λ e. e.key) (filter (λ e. not (is_key (codes "condition") e)) (entries_view l.entries))
