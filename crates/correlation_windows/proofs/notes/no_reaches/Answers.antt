use Rattle.correlation_windows.proofs.Noting.{none_noted}
use Rattle.correlation_windows.proofs.notes.no_reaches.Goals as goal

pub returns : goal.returns
returns c = none_noted c.unreached.result (λ v. v.items) c.args.kind c.args.rules c.places_for.result c.unreached.ensures.long c.unreached.ensures.none c.places_for.ensures
