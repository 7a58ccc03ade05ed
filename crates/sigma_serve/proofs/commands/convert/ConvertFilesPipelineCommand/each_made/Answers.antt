use Rattle.sigma_serve.proofs.RequestLaws.{each_converted_cut}
use Rattle.sigma_serve.proofs.commands.convert.ConvertFilesPipelineCommand.each_made.Goals as goal

pub returns : goal.returns
returns c = λ ps refused. each_converted_cut c.each_answer.ensures.file c.args.self.now.backend c.args.self.now.limits.now c.args.self.now.rules.now ps refused
