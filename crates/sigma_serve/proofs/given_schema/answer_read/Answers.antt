use Rattle.sigma_serve.proofs.Schemed.{schema_given, schema_refused, schema_memory}
use Rattle.sigma_serve.specs.UnderSchema.{is_ended}
use Rattle.sigma_serve.proofs.given_schema.answer_read.Goals as goal

pub returns-in-Ok : goal.returns-in-Ok
returns-in-Ok g c front =
    let command = c.args.command.now in
    schema_given (g.T.SchemaCommand.by command)
    c.args.limits.now c.args.name.now (g.T.SchemaCommand.names command) (g.T.SchemaCommand.events command) c.args.bytes.now
    (g.W.Outside.state c.args.outside.now) (g.W.Outside.state c.answer.new.outside) front
    (g.B.Builder.refused c.args.builder.now) (g.B.Builder.refused c.answer.new.builder) (is_ended c.answer.result) c.in-Ok.schema c.answer.result c.in-Ok.ensures.taken c.answer.ensures

pub returns-in-Err-Refused : goal.returns-in-Err-Refused
returns-in-Err-Refused g c front =
    let command = c.args.command.now in
    let answers = rw c.in-Err-Refused.field-0-is at c.in-Err-Refused.ensures.taken in
    let refused = g.B.Builder.refused c.args.builder.now in
    schema_refused (g.T.SchemaCommand.by command) c.args.limits.now c.args.name.now (g.T.SchemaCommand.names command) (g.T.SchemaCommand.events command) c.args.bytes.now
    (g.W.Outside.state c.args.outside.now) (g.W.Outside.state c.put_refusal.new.outside) front refused c.in-Err-Refused.cause c.put_refusal.result answers c.put_refusal.ensures

pub returns-in-Err-Memory : goal.returns-in-Err-Memory
returns-in-Err-Memory g c front =
    let command = c.args.command.now in
    let refused = g.B.Builder.refused c.args.builder.now in
    schema_memory (g.T.SchemaCommand.by command) c.args.limits.now c.args.name.now (g.T.SchemaCommand.names command) (g.T.SchemaCommand.events command) refused (c.each_under.ensures refused) (g.W.Outside.state c.args.outside.now)
