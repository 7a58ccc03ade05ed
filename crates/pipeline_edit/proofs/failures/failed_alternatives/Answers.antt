use Rattle.std.proofs.Common.{sym}
use Rattle.rule_schema.proofs.FirstRefused.{part_here}
use Rattle.pipeline_edit.specs.Failed.{item_failure}
use Rattle.pipeline_edit.proofs.failures.failed_alternatives.Goals as goal

pub returns-in-Some : goal.returns-in-Some
returns-in-Some c =
    part_here (item_failure c.args.step.now) (λ items. items) c.loop-alternative.alternative-index c.args.alternatives.now c.alternative-item.result c.in-Some.refusal _ c.loop-alternative-test.true
    c.alternative-item.is (rw c.as_slice.ensures at (sym c.in-Some.ensures)) c.loop-alternative.invariant
