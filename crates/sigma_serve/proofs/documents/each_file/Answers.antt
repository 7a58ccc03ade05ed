use Rattle.sigma_serve.proofs.Documented.{each_file_at}
use Rattle.sigma_serve.proofs.documents.each_file.Goals as goal

pub returns : goal.returns
returns g c = λ limits. each_file_at (g.T.TreeCommand.gives c.args.command.now limits) (c.each_tree.ensures limits) c.verdicts.ensures.each
