use Rattle.std.proofs.Common.{◌∙◌, sym, Some}
use Rattle.serde_json.specs.View.{view}
use Rattle.event_read.proofs.SchemaLemmas.{answers_kept}
use Rattle.event_read.proofs.SchemaShapes.{memory_anyway, shape_fits}
use Rattle.event_read.specs.SchemaOf as spec
use Rattle.event_read.proofs.schemas.shaped.Goals as goal

pub returns-in-Err-clause-taken : goal.returns-in-Err-clause-taken
returns-in-Err-clause-taken c = memory_anyway c.args.place (spec.shaped c.args.limits.now (Some (view c.args.value.now))) c.in-Err.fault c.in-Err.ensures.err

pub returns-clause-is_schema : goal.returns-clause-is_schema
returns-clause-is_schema c = answers_kept c.args.place c.args.limits.now (Some (view c.args.value.now)) c.counted.result
    (shape_fits c.args.place c.args.limits.now (view c.args.value.now) c.in-Ok.schema c.counted.result (sym c.is_schema.ensures ∙ c.if-not-is_schema.false) c.in-Ok.ensures.ok
    (sym c.are_allowed.ensures ∙ c.if-not-are_allowed.false) c.counted.ensures)
