use Rattle.event_read.proofs.RepeatLemmas.{names_start, name_more}
use Rattle.event_read.proofs.repeats.distinct.Goals as goal

pub loop-field-init : goal.loop-field-init
loop-field-init c = names_start c.args.fields.now c.new-names.result.keys c.new-names.ensures.empty

pub loop-field-preserved : goal.loop-field-preserved
loop-field-preserved c =
    name_more c.args.fields.now c.loop-field.field-index c.field-item.result c.loop-field.names.keys c.in_ok-name.name c.insert.new.self.keys c.in_ok-added.added c.field-item.is c.loop-field-test.true
    c.in_ok-name.ensures c.in_ok-added.ensures.added c.if-not-added.false c.in_ok-added.ensures.keys c.loop-field.invariant
