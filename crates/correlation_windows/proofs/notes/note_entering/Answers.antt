use Rattle.correlation_windows.proofs.Noting.{text_noted, each_noted, order_noted}
use Rattle.correlation_windows.proofs.notes.note_entering.Goals as goal

pub returns-in-ValueCount-clause-noted : goal.returns-in-ValueCount-clause-noted
returns-in-ValueCount-clause-noted c = λ rules w m place text few so.
    text_noted c.args.kind rules w m few c.args.counts.now.entries c.text_may_enter.new.counts.entries c.args.reaches.now.items c.args.text c.in-ValueCount.is text c.text_may_enter.ensures.times so

pub returns-in-Temporal-clause-noted : goal.returns-in-Temporal-clause-noted
returns-in-Temporal-clause-noted c = λ rules w m place text few so.
    each_noted c.args.kind rules w m few c.args.counts.now.entries c.args.reaches.now.items c.match_enters.new.reaches.items c.args.place c.in-Temporal.is place c.match_enters.ensures so

pub returns-in-TemporalOrdered-clause-noted : goal.returns-in-TemporalOrdered-clause-noted
returns-in-TemporalOrdered-clause-noted c = λ rules w m place text few so.
    order_noted c.args.kind rules w m few c.args.counts.now.entries c.args.reaches.now.items c.match_enters-in-TemporalOrdered.new.reaches.items c.args.place c.in-TemporalOrdered.is place c.match_enters-in-TemporalOrdered.ensures so
