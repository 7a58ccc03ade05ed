use Rattle.sigma_serve.proofs.Correlated.{each_files_cut, each_timed_cut}
use Rattle.sigma_serve.proofs.Piped.{each_piped}
use Rattle.sigma_serve.specs.Correlated.{FilesCorrelated}
use Rattle.sigma_serve.specs.UnderPipelines.{PipedBuilder}
use Rattle.sigma_serve.proofs.commands.correlate.CorrelateFilesSchemaCommand.each_under.Goals as goal

pub returns : goal.returns
returns c = λ refused.
    let command = c.args.self.now in
    each_timed_cut (PipedBuilder (FilesCorrelated command.limits.now command.rules.now) command.limits.now command.pipelines.now) command.schema.now refused
    (each_piped (FilesCorrelated command.limits.now command.rules.now) command.limits.now command.pipelines.now refused
    (λ ps. each_files_cut c.each_answer.ensures.correlated c.one_outcome-2.ensures.file command.limits.now command.rules.now ps refused) c.one_outcome.ensures.each)
