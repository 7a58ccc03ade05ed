use Rattle.rule_schema.specs.Gathered.{value_uses}
use Rattle.rule_schema.proofs.Gathering.{stop, gathers_on}
use Rattle.rule_schema.proofs.names.Gathered.add_values.Goals as goal

pub returns-in_err-add_tests-clause-gathers : goal.returns-in_err-add_tests-clause-gathers
returns-in_err-add_tests-clause-gathers c =
    gathers_on c.from_residual.result c.in_err-add_tests.field-0.0 _ _ _ _ _ _ _ c.from_residual.ensures.1 (λ y p. p) (rw c.as_slice.ensures at c.in_err-add_tests.ensures.gathers)
    (λ r g. stop (value_uses c.args.place) c.loop-tests.tests-index c.args.values.now c.tests-item.result _ r _ c.loop-tests-test.true c.tests-item.is c.loop-tests.invariant.gathers g)
