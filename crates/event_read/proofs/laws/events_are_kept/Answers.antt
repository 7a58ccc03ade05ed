use Rattle.event_read.proofs.Taken.{events_kept}
use Rattle.event_read.proofs.laws.events_are_kept.Goals as goal

pub returns : goal.returns
returns c = events_kept
