use Rattle.std.proofs.Common.{◌∙◌, sym}
use Rattle.rule_head.proofs.Days.{day_is}
use Rattle.rule_head.proofs.dates.are_day.Goals as goal

pub returns : goal.returns
returns c =
    day_is c.args.bytes.now c.is_calendar_day.result c.in-len10.len_at_least c.in-len10.len_below
    (sym c.are_digits.ensures ∙ c.if-not-are_digits.false) c.if-first-ne45.false c.if-second-ne45.false
    (rw c.two_digits.ensures.value at rw c.two_digits-2.ensures.value at rw c.two_digits-3.ensures.value at rw c.two_digits-4.ensures.value at c.is_calendar_day.ensures)
