use Rattle.sigma_serve.proofs.Ran.{asks_unless_unrun, asks_none_unschemed, asks_none_unpiped}
use Rattle.sigma_serve.proofs.laws.asks_for_events.Goals as goal

pub returns : goal.returns
returns c = record { run = asks_unless_unrun c.one_run.ensures.never_both; schema = asks_none_unschemed; pipelines = asks_none_unpiped c.one_outcome.ensures.never_both }
