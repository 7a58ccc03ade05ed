use Rattle.std.proofs.Common.{◌≡◌, ◌++◌, drop}
use Rattle.std.specs.List.{flat_map}
use Rattle.rule_detections.specs.Expressions.{expression_at}
use Rattle.rule_detections.specs.TestExpressions.{expression_of}
use Rattle.rule_model.proofs.expressions.add_values.Given as goal

abbrev pub invariant-loop-tests : goal.invariant-loop-tests
invariant-loop-tests l =
    l.all ++ flat_map (flat_map (λ test. expression_at l.place (expression_of test))) (drop l.tests-index l.values)
    ≡ l.initial.all ++ flat_map (flat_map (λ test. expression_at l.place (expression_of test))) l.values
