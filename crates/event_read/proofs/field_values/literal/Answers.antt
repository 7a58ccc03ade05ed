use Rattle.std.proofs.Common.{ap, ◌∙◌, Some}
use Rattle.sig_base.proofs.TextLemmas.{ascii_chars}
use Rattle.event_schema.specs.declared.value.Value.TheVariants as values
use Rattle.std.proofs.Common.{sym, subst}
use Rattle.sig_base.proofs.TextLemmas.{ascii_scalars}
use Rattle.event_schema.specs.Events.{IsPlainText}
use Rattle.event_read.proofs.field_values.literal.Goals as goal

pub returns-clause-taken : goal.returns-clause-taken
returns-clause-taken c = ap (λ t. Some (values.Text t)) (c.in_ok-copy.ensures.ok ∙ ascii_chars c.args.text.now c.requires.ascii)

pub returns-clause-kind : goal.returns-clause-kind
returns-clause-kind c =
    subst IsPlainText (sym (c.in_ok-copy.ensures.ok ∙ ascii_chars c.args.text.now c.requires.ascii)) (ascii_scalars c.args.text.now c.requires.ascii, c.requires.plain)
