use Rattle.std.proofs.Common.{sym, ◌∙◌, subst}
use Rattle.event_read.proofs.PlainTexts.{decimal_plain}
use Rattle.event_schema.specs.Events.{IsPlainText}
use Rattle.event_read.proofs.field_values.as_digits.Goals as goal

pub returns-clause-kind : goal.returns-clause-kind
returns-clause-kind c =
    subst IsPlainText (sym c.in_ok-decimal.ensures.ok) (decimal_plain _ (sym c.is_whole.ensures ∙ c.if-not-is_whole.false))
