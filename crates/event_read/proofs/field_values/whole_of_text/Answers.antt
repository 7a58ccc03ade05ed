use Rattle.std.proofs.Common.{◌≡◌, ap, ◌∙◌, sym, true}
use Rattle.event_read.specs.Takes as spec
use Rattle.event_read.proofs.Numerals.{out_of_range}
use Rattle.event_read.proofs.field_values.whole_of_text.Goals as goal

pub returns-in-Err-clause-taken : goal.returns-in-Err-clause-taken
returns-in-Err-clause-taken c =
    let is : spec.is_decimal c.args.text.now ≡ true = sym (ap spec.is_decimal c.as_bytes.ensures.value) ∙ (sym c.is_decimal.ensures ∙ c.if-not-is_decimal.false) in
    out_of_range c.args.place c.args.text.now c.refused-in-Err.result is c.in-Err.ensures.value.0 c.refused-in-Err.ensures
