use Rattle.std.proofs.Common.{true}
use Rattle.answer_writer.specs.Input.{Needs}
use Rattle.sigma_serve.proofs.Correlated.{nothing_timed}
use Rattle.sigma_serve.specs.Answers.{names_with}
use Rattle.sigma_serve.specs.Correlated.{FilesCorrelated}
use Rattle.sigma_serve.specs.UnderPipelines.{PipedBuilder}
use Rattle.sigma_serve.proofs.commands.correlate.CorrelateFilesSchemaCommand.answer.Goals as goal

pub returns-in_default : goal.returns-in_default
returns-in_default g c =
    let command = c.args.self.now in
    let needs : Needs = record { names = names_with command.pipelines.now command.rules.now; events = true } in
    let texts = g.B.Builder.refused c.args.builder.now in
    rw c.in_default.is (nothing_timed needs (PipedBuilder (FilesCorrelated command.limits.now command.rules.now) command.limits.now command.pipelines.now) command.schema.now texts texts (g.W.Outside.state c.args.outside.now))

pub returns : goal.returns
returns g c = rw c.in-Some.is c.answer_timed.ensures
