use Rattle.sigma_serve.proofs.Correlated.{each_files_cut}
use Rattle.sigma_serve.proofs.commands.correlate.CorrelateFilesPipelineCommand.each_made.Goals as goal

pub returns : goal.returns
returns c = λ ps refused. each_files_cut c.each_answer.ensures.correlated c.one_outcome.ensures.file c.args.self.now.limits.now c.args.self.now.rules.now ps refused
