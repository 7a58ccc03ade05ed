use Rattle.sigma_serve.proofs.Correlating.{correlated_memory}
use Rattle.sigma_serve.proofs.commands.correlate.answer_found.Goals as goal

pub answer_bindings-requires-clause-are : goal.answer_bindings-requires-clause-are
answer_bindings-requires-clause-are g c rules correlations stands = c.in-Ok.ensures.judged rules correlations stands

pub returns : goal.returns
returns g c rules correlations stands =
    correlated_memory c.each_answer.ensures.correlated c.args.limits.now c.args.schema.now rules correlations (g.W.Outside.state c.args.outside.now)
