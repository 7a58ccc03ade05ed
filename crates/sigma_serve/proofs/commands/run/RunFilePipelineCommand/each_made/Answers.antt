use Rattle.sigma_serve.proofs.Ran.{each_ran_cut}
use Rattle.sigma_serve.proofs.commands.run.RunFilePipelineCommand.each_made.Goals as goal

pub returns : goal.returns
returns c = λ ps refused. each_ran_cut c.each_answer.ensures.ran c.args.self.now.limits.now c.args.self.now.rule.now ps refused
