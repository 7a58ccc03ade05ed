use Rattle.std.proofs.Common.{ℕ, List, subst, sym}
use Rattle.generate_run.specs.Lines.{IsGenerated}
use Rattle.sigma_serve.proofs.Made.{made_put, made_nothing}
use Rattle.sigma_serve.proofs.commands.generate.answer_generate.Goals as goal

pub returns-in-Ok : goal.returns-in-Ok
returns-in-Ok g c =
    made_put c.args.seed c.args.events c.into_vec.result.items c.put_line.result (g.W.Outside.state c.args.outside.now) (g.W.Outside.state c.put_line.new.outside)
    (subst (λ (l : List ℕ). IsGenerated c.args.seed c.args.events l) (sym c.into_vec.ensures) c.in-Ok.ensures.ok) c.put_line.ensures

pub returns : goal.returns
returns g c = made_nothing c.generated_lines.ensures.some c.args.seed c.args.events (g.W.Outside.state c.args.outside.now)
