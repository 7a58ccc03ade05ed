use Rattle.sig_conditions.proofs.MeaningLemmas.{means}
use Rattle.sig_conditions.proofs.laws.same_meaning.Goals as goal

pub returns : goal.returns
returns c = means
