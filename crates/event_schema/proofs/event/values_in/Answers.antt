use Rattle.std.proofs.Common.{◌∙◌, sym}
use Rattle.event_schema.proofs.RowLemmas.{values_within, values_past}
use Rattle.event_schema.proofs.event.values_in.Goals as goal

pub returns-then-field-row : goal.returns-then-field-row
returns-then-field-row c = sym (values_past c.args.row.now c.args.field c.if-field-row.true)

pub returns : goal.returns
returns c =
    c.as_slice.ensures
    ∙ sym (values_within c.args.row.now c.args.field c.index-row-field.result c.if-field-row.false c.index-row-field.is)
