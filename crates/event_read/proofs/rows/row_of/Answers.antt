use Rattle.std.proofs.Common.{Vec, Global}
use Rattle.serde_json.specs.View.{view}
use Rattle.event_schema.specs.declared.values.FieldValues.{FieldValues}
use Rattle.event_read.proofs.RowLemmas.{row_more, row_refused, event_more}
use Rattle.event_read.proofs.rows.row_of.Goals as goal

pub returns-in-Err-clause-taken : goal.returns-in-Err-clause-taken
returns-in-Err-clause-taken c =
    row_refused (λ (v : Vec FieldValues Global). v.items) c.args.place c.args.fields.now c.loop-field.field-index c.field-item.result (view c.args.value.now) c.loop-field.values.items c.in-Err.fault
    c.field-item.is c.loop-field-test.true c.in-Err.ensures.taken c.loop-field.invariant.0

pub loop-field-preserved : goal.loop-field-preserved
loop-field-preserved c = (
  row_more c.args.place c.args.fields.now c.loop-field.field-index c.field-item.result (view c.args.value.now) c.loop-field.values.items c.push.new.self.items c.in-Ok.taken
      c.field-item.is c.loop-field-test.true c.in-Ok.ensures.taken c.in_ok-push-in-Ok.ensures.items c.loop-field.invariant.0,
  event_more c.args.fields.now c.loop-field.field-index c.field-item.result c.loop-field.values.items c.push.new.self.items c.in-Ok.taken
      c.field-item.is c.loop-field-test.true c.in-Ok.ensures.are c.in_ok-push-in-Ok.ensures.items c.loop-field.invariant.1,
)
