use Rattle.std.proofs.Common.{◌∙◌, sym}
use Rattle.event_time.proofs.MomentLemmas.{day_is}
use Rattle.event_time.proofs.moments.day_of.Goals as goal

pub returns-clause-value : goal.returns-clause-value
returns-clause-value c =
    day_is c.args.bytes.now c.day_nanos.result c.in-len10.len_at_least c.in-len10.len_below c.if-first-ne45.false c.if-second-ne45.false
    (sym c.is_two.ensures ∙ c.if-not-is_two.false) (sym c.is_two-else-not-is_two.ensures ∙ c.if-not-is_two-2.false) (sym c.is_two-2.ensures ∙ c.if-not-is_two-3.false) (sym c.is_two-else-not-is_two-3.ensures ∙ c.if-not-is_two-4.false)
    (rw c.two_digits.ensures.value at rw c.two_digits-2.ensures.value at rw c.two_digits-3.ensures.value at rw c.two_digits-4.ensures.value at c.day_nanos.ensures.value)
