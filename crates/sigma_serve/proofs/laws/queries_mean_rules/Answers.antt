use Rattle.sigma_serve.proofs.RequestLaws.{queries_mean, answers_mean}
use Rattle.sigma_serve.proofs.laws.queries_mean_rules.Goals as goal

pub returns : goal.returns
returns c =
    let files = queries_mean c.queries_mean_rules.ensures c.texts_are_scalars.ensures in
    record { file = files; request = answers_mean files c.schemas_are_kept.ensures c.one_outcome.ensures.whole }
