use Rattle.rule_schema.specs.Compared.{test_names}
use Rattle.rule_schema.proofs.Looking.{next_seen}
use Rattle.rule_schema.proofs.seen.Seen.look_through.Goals as goal

pub loop-test-preserved : goal.loop-test-preserved
loop-test-preserved c =
    next_seen test_names c.args.fields.now c.args.tests.now c.loop-test.test-index c.test-item.result c.loop-test.seen c.look_at-seen.result _ c.test-item.is c.loop-test-test.true
    c.look_at-seen.ensures c.loop-test.invariant
