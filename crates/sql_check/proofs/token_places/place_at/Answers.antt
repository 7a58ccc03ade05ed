use Rattle.sql_check.proofs.Judged.{nth_here, nth_past}
use Rattle.sql_check.proofs.token_places.place_at.Goals as goal

pub returns-in-Some : goal.returns-in-Some
returns-in-Some c = nth_here c.args.places.now c.args.index c.in-Some.place.now c.in-Some.ensures.lookup.3.0 c.in-Some.ensures.lookup.1

pub returns-in-None : goal.returns-in-None
returns-in-None c = nth_past c.args.places.now c.args.index c.in-None.ensures.lookup.3
