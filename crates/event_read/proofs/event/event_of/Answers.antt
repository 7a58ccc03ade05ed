use Rattle.std.proofs.Common.{Vec, Global}
use Rattle.serde_json.specs.View.{view}
use Rattle.event_schema.specs.declared.values.FieldValues.{FieldValues}
use Rattle.event_read.proofs.MomentLemmas.{refused_too}
use Rattle.event_read.specs.EventOf as spec
use Rattle.event_read.specs.Moments.{moment_of}
use Rattle.event_read.proofs.event.event_of.Goals as goal

pub returns-in-Err-clause-taken : goal.returns-in-Err-clause-taken
returns-in-Err-clause-taken c =
    refused_too (λ (v : Vec FieldValues Global). v.items) c.args.place (moment_of c.args.schema.now.time (view c.args.value.now))
    (spec.values_of c.args.schema.now.fields (view c.args.value.now)) c.in-Err.fault (rw c.as_slice.ensures at c.in-Err.ensures.taken)
