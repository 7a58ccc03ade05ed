use Rattle.query_lang.proofs.Unrefused.{without_refusals}
use Rattle.query_lang.proofs.laws.none_without_refusals.Goals as goal

pub returns : goal.returns
returns g c = λ limits schema bytes refused r. without_refusals _ _ _ _ (g.L.Language.patterns bytes) refused r
