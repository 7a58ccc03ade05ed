use Rattle.correlation_windows.proofs.Noting.{none_each, none_order}
use Rattle.correlation_windows.proofs.notes.places_for.Goals as goal

pub returns-in-Temporal : goal.returns-in-Temporal
returns-in-Temporal c = λ reaches long none. none_each c.args.kind c.args.rules reaches c.in-Temporal.is long none

pub returns-in-TemporalOrdered : goal.returns-in-TemporalOrdered
returns-in-TemporalOrdered c = λ reaches long none. none_order c.args.kind c.args.rules reaches c.in-TemporalOrdered.is long none
