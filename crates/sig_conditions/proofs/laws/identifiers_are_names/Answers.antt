use Rattle.sig_conditions.proofs.SpellingLemmas.{identifier_word}
use Rattle.sig_conditions.proofs.laws.identifiers_are_names.Goals as goal

pub returns : goal.returns
returns c = identifier_word
