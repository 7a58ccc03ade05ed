use Rattle.sigma_serve.proofs.Schemed.{none_named}
use Rattle.sigma_serve.specs.UnderSchema.{is_ended}
use Rattle.sigma_serve.proofs.given_schema.answer_schema.Goals as goal

pub returns-in-None : goal.returns-in-None
returns-in-None g c =
    let command = c.args.command.now in
    none_named (g.T.SchemaCommand.by command) c.args.limits.now c.args.schema.now (g.B.Builder.refused c.args.builder.now) (g.B.Builder.refused c.answer.new.builder) (is_ended c.answer.result)
    (g.T.SchemaCommand.names command) (g.T.SchemaCommand.events command) c.answer.result
    (g.W.Outside.state c.args.outside.now) (g.W.Outside.state c.answer.new.outside) c.in-None.is c.answer.ensures
