use Rattle.sigma_serve.proofs.RequestLaws.{each_converted_cut}
use Rattle.sigma_serve.proofs.Piped.{each_piped}
use Rattle.sigma_serve.specs.Convert.{ConvertGives}
use Rattle.sigma_serve.specs.Converted.{RulesBySome}
use Rattle.sigma_serve.proofs.commands.convert.ConvertFilesSchemaCommand.each_under.Goals as goal

pub returns : goal.returns
returns c = λ refused.
    let command = c.args.self.now in
    each_piped (RulesBySome (ConvertGives command.backend command.limits.now) command.limits.now command.rules.now) command.limits.now command.pipelines.now refused
    (λ ps. each_converted_cut c.each_answer.ensures.file command.backend command.limits.now command.rules.now ps refused) c.one_outcome.ensures.each
