use Rattle.std.specs.Prelude.{option_map}
use Rattle.sigma_serve.proofs.Piped.{pipelines_unread}
use Rattle.sigma_serve.proofs.given_pipelines.answer_named.Goals as goal

pub returns-in-Err : goal.returns-in-Err
returns-in-Err g c =
    let command = c.args.command.now in
    let refused = g.B.Builder.refused c.args.builder.now in
    pipelines_unread (g.T.PipelineCommand.by_made command) c.args.limits.now c.args.name.now (option_map (λ s. s.now) c.args.given) (g.T.PipelineCommand.own_names command) (g.T.PipelineCommand.own_events command)
    c.one_outcome.ensures.each refused (λ ps. c.each_made.ensures ps refused) c.in-Err.stop (g.W.Outside.state c.args.outside.now) (g.W.Outside.state c.read_file.new.outside) c.in-Err.ensures.stops
