use Rattle.sigma_serve.proofs.Schemed.{schema_unread}
use Rattle.sigma_serve.proofs.given_schema.answer_under.Goals as goal

pub returns-in-Err : goal.returns-in-Err
returns-in-Err g c =
    let command = c.args.command.now in
    let refused = g.B.Builder.refused c.args.builder.now in
    schema_unread (g.T.SchemaCommand.by command) c.args.limits.now c.args.name.now (g.T.SchemaCommand.names command) (g.T.SchemaCommand.events command) refused (c.each_under.ensures refused) c.in-Err.stop
    (g.W.Outside.state c.args.outside.now) (g.W.Outside.state c.read_file.new.outside) c.in-Err.ensures.stops
