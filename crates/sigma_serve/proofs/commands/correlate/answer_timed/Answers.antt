use Rattle.std.proofs.Common.{true}
use Rattle.answer_writer.specs.Input.{Needs}
use Rattle.sigma_serve.proofs.Correlated.{timed_answer, untimed_answer}
use Rattle.sigma_serve.specs.Answers.{names_with}
use Rattle.sigma_serve.specs.Correlated.{FilesCorrelated}
use Rattle.sigma_serve.specs.UnderPipelines.{PipedBuilder}
use Rattle.sigma_serve.specs.UnderSchema.{is_ended}
use Rattle.sigma_serve.proofs.commands.correlate.answer_timed.Goals as goal

pub returns-in-Some : goal.returns-in-Some
returns-in-Some g c =
    let command = c.args.command.now in
    let needs : Needs = record { names = names_with command.pipelines.now command.rules.now; events = true } in
    timed_answer needs (PipedBuilder (FilesCorrelated command.limits.now command.rules.now) command.limits.now command.pipelines.now) command.schema.now
    (g.B.Builder.refused c.args.builder.now) (g.B.Builder.refused c.answer_pipelines.new.builder) (is_ended c.answer_pipelines.result) c.args.schema.now _ c.answer_pipelines.result
    (g.W.Outside.state c.args.outside.now) (g.W.Outside.state c.answer_pipelines.new.outside) c.in-Some.is c.answer_pipelines.ensures

pub returns-in-None : goal.returns-in-None
returns-in-None g c =
    let command = c.args.command.now in
    let needs : Needs = record { names = names_with command.pipelines.now command.rules.now; events = true } in
    untimed_answer needs (PipedBuilder (FilesCorrelated command.limits.now command.rules.now) command.limits.now command.pipelines.now) command.schema.now
    (g.B.Builder.refused c.args.builder.now) (is_ended c.put_refusal.result) c.args.schema.now c.put_refusal.result
    (g.W.Outside.state c.args.outside.now) (g.W.Outside.state c.put_refusal.new.outside) c.in-None.is c.put_refusal.ensures
