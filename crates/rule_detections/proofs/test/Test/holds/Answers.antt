use Rattle.std.proofs.Common.{ap, ◌∙◌}
use Rattle.event_schema.specs.Rows.{values_at}
use Rattle.rule_detections.proofs.Same.{of_values}
use Rattle.rule_detections.proofs.test.Test.holds.Goals as goal

pub returns-in-SameAs : goal.returns-in-SameAs
returns-in-SameAs c =
    let same = ap (values_at c.args.schema.now c.args.event.now) c.as_str.ensures.chars in
    rw c.in-SameAs.is (of_values c.some_is_same.result _ _ _ _ c.values_at-values.ensures (c.values_at.ensures ∙ same) c.some_is_same.ensures)
