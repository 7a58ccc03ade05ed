use Rattle.std.proofs.Common.{true}
use Rattle.answer_writer.specs.Input.{Needs}
use Rattle.sigma_serve.proofs.Correlated.{nothing_correlated}
use Rattle.sigma_serve.proofs.commands.correlate.CorrelateFilesPipelineCommand.answer_made.Goals as goal

pub returns-in_default : goal.returns-in_default
returns-in_default g c =
    let command = c.args.self.now in
    let needs : Needs = record { names = command.rules.now; events = true } in
    let texts = g.B.Builder.refused c.args.builder.now in
    rw c.in_default.is (nothing_correlated needs command.limits.now command.rules.now c.args.pipelines.now texts texts (g.W.Outside.state c.args.outside.now))

pub returns : goal.returns
returns g c = rw c.in-Some.is c.answer_rules.ensures
