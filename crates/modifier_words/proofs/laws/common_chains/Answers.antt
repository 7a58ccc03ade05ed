use Rattle.modifier_words.proofs.CommonLemmas.{common}
use Rattle.modifier_words.proofs.laws.common_chains.Goals as goal

pub returns : goal.returns
returns c = common
