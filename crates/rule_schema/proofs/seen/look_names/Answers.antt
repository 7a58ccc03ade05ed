use Rattle.rule_schema.proofs.Looking.{next_name}
use Rattle.rule_schema.proofs.seen.look_names.Goals as goal

pub loop-name-preserved : goal.loop-name-preserved
loop-name-preserved c =
    next_name c.args.fields.now c.args.names.now c.loop-name.name-index c.name-item.result c.loop-name.seen c.look-seen.result _ c.name-item.is c.loop-name-test.true
    c.look-seen.ensures c.loop-name.invariant
