use Rattle.std.proofs.Common.{◌≡◌, ◌++◌, drop}
use Rattle.std.specs.List.{flat_map}
use Rattle.modifier_words.specs.declared.form.ChainForm.TheVariants.{Expressions}
use Rattle.rule_detections.specs.Expressions.{use_expressions}
use Rattle.rule_detections.specs.TestsOf.{form_use}
use Rattle.yaml_tree.specs.Nodes.{place_of}
use Rattle.yaml_tree.specs.View.{nodes_view}
use Rattle.rule_detections.proofs.expressions.add_values.Given as goal

abbrev pub invariant-loop-value : goal.invariant-loop-value
invariant-loop-value l =
    l.all ++ flat_map (λ value. use_expressions l.limits.value_chars (place_of value) (form_use (Expressions l.flags) value)) (nodes_view (drop l.value-index l.values))
    ≡ l.initial.all ++ flat_map (λ value. use_expressions l.limits.value_chars (place_of value) (form_use (Expressions l.flags) value)) (nodes_view l.values)
