use Rattle.std.specs.Prelude.{option_map}
use Rattle.sigma_serve.proofs.Piped.{none_piped}
use Rattle.sigma_serve.specs.UnderSchema.{is_ended}
use Rattle.sigma_serve.proofs.given_pipelines.answer_pipelines.Goals as goal

pub returns-in-None : goal.returns-in-None
returns-in-None g c =
    let command = c.args.command.now in
    none_piped (g.T.PipelineCommand.by_made command) c.args.limits.now c.args.pipelines.now (g.B.Builder.refused c.args.builder.now) (g.B.Builder.refused c.answer_made.new.builder) (is_ended c.answer_made.result)
    (option_map (λ s. s.now) c.args.given) (g.T.PipelineCommand.own_names command) (g.T.PipelineCommand.own_events command) c.answer_made.result
    (g.W.Outside.state c.args.outside.now) (g.W.Outside.state c.answer_made.new.outside) c.in-None.is c.answer_made.ensures
