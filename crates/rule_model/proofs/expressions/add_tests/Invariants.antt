use Rattle.std.proofs.Common.{◌≡◌, ◌++◌, drop}
use Rattle.std.specs.List.{flat_map}
use Rattle.rule_detections.specs.Expressions.{expression_at}
use Rattle.rule_detections.specs.TestExpressions.{expression_of}
use Rattle.rule_model.proofs.expressions.add_tests.Given as goal

abbrev pub invariant-loop-test : goal.invariant-loop-test
invariant-loop-test l =
    l.all ++ flat_map (λ test. expression_at l.place (expression_of test)) (drop l.test-index l.tests)
    ≡ l.initial.all ++ flat_map (λ test. expression_at l.place (expression_of test)) l.tests
