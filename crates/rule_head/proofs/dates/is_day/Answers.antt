use Rattle.std.proofs.Common.{◌∙◌}
use Rattle.rule_head.proofs.Days.{same_day}
use Rattle.rule_head.proofs.dates.is_day.Goals as goal

pub returns : goal.returns
returns c =
    same_day c.as_bytes.result.now c.args.text.now c.are_day.result
    (c.as_bytes.ensures.value ∙ c.as_str.ensures.bytes) c.as_str.ensures.scalars c.are_day.ensures
