use Rattle.sql_scan.proofs.Digits.{too_large}
use Rattle.sql_scan.proofs.sorts.small_value.Goals as goal

pub returns-then-value : goal.returns-then-value
returns-then-value c = too_large c.loop-c.value c.c-item.result c.loop-c.c-index c.args.digits.now c.loop-c.invariant.ran c.loop-c-test.true c.c-item.is c.if-value.true
