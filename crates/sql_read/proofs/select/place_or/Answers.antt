use Rattle.query_tokens.specs.PlaceView.{place_view}
use Rattle.sql_read.proofs.Past.{or_get, or_past}
use Rattle.sql_read.proofs.select.place_or.Goals as goal

pub returns-in-Some : goal.returns-in-Some
returns-in-Some c = or_get c.args.places.now c.args.index c.in-Some.place.now (place_view c.args.end) c.in-Some.ensures.lookup.3.0 c.in-Some.ensures.lookup.1

pub returns-in-None : goal.returns-in-None
returns-in-None c = or_past c.args.places.now c.args.index (place_view c.args.end) c.in-None.ensures.lookup.3
