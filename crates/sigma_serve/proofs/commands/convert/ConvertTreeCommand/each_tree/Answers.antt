use Rattle.std.specs.Prelude.{option_map}
use Rattle.sigma_serve.proofs.Judged.{each_converts}
use Rattle.sigma_serve.proofs.commands.convert.ConvertTreeCommand.each_tree.Goals as goal

pub returns : goal.returns
returns c = λ limits. each_converts c.lone_rules.ensures.each c.args.self.now.backend limits c.args.self.now.pipelines.now (option_map (λ s. s.now) c.args.self.now.schema)
