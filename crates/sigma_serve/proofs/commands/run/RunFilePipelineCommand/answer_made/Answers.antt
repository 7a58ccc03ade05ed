use Rattle.std.specs.Prelude.{option_map}
use Rattle.sigma_serve.proofs.Ran.{run_unread}
use Rattle.sigma_serve.proofs.commands.run.RunFilePipelineCommand.answer_made.Goals as goal

pub returns-in-Err : goal.returns-in-Err
returns-in-Err g c =
    let refused = g.B.Builder.refused c.args.builder.now in
    run_unread c.args.self.now.limits.now c.args.self.now.rule.now c.args.pipelines.now (option_map (λ s. s.now) c.args.given) refused (c.each_made.ensures c.args.pipelines.now refused) c.in-Err.stop
    (g.W.Outside.state c.args.outside.now) (g.W.Outside.state c.read_file.new.outside) c.in-Err.ensures.stops
