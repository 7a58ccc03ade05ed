use Rattle.sigma_serve.proofs.Piped.{each_piped}
use Rattle.sigma_serve.proofs.Ran.{each_ran_cut}
use Rattle.sigma_serve.specs.Ran.{RanBySome}
use Rattle.sigma_serve.proofs.commands.run.RunFileSchemaCommand.each_under.Goals as goal

pub returns : goal.returns
returns c = λ refused.
    each_piped (RanBySome c.args.self.now.limits.now c.args.self.now.rule.now) c.args.self.now.limits.now c.args.self.now.pipelines.now refused
    (λ ps. each_ran_cut c.each_answer.ensures.ran c.args.self.now.limits.now c.args.self.now.rule.now ps refused) c.one_outcome.ensures.each
