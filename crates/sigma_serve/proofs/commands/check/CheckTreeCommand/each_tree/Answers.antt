use Rattle.sigma_serve.proofs.Judged.{each_checks}
use Rattle.sigma_serve.proofs.commands.check.CheckTreeCommand.each_tree.Goals as goal

pub returns : goal.returns
returns c = each_checks
