use Rattle.event_read.proofs.EachLemmas.{alone_refused}
use Rattle.event_read.specs.Takes as spec
use Rattle.serde_json.specs.View.{view}
use Rattle.event_read.proofs.field_values.take_alone.Goals as goal

pub returns-in-Err-clause-taken : goal.returns-in-Err-clause-taken
returns-in-Err-clause-taken c =
    alone_refused c.args.place (spec.take_single c.args.kind (view c.args.value.now)) c.in-Err.fault c.in-Err.ensures.taken
