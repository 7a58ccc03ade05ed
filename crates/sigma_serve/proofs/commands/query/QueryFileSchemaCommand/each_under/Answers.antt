use Rattle.std.proofs.Common.{[], sym, append-nil}
use Rattle.sigma_serve.proofs.commands.query.QueryFileSchemaCommand.each_under.Goals as goal

pub returns : goal.returns
returns c = λ refused given world.
    c.each_answer.ensures.queried c.args.self.now.backend c.args.self.now.limits.now c.args.self.now.query.now refused refused [] (sym (append-nil refused)) given world tt
