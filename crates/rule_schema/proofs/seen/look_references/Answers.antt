use Rattle.rule_schema.specs.Compared.{value_names}
use Rattle.rule_schema.proofs.Looking.{next_seen}
use Rattle.rule_schema.proofs.seen.look_references.Goals as goal

pub loop-tests-preserved : goal.loop-tests-preserved
loop-tests-preserved c =
    next_seen value_names c.args.fields.now c.args.values.now c.loop-tests.tests-index c.tests-item.result c.loop-tests.seen c.look_through-seen.result _ c.tests-item.is
    c.loop-tests-test.true (rw c.as_slice.ensures at c.look_through-seen.ensures) c.loop-tests.invariant
