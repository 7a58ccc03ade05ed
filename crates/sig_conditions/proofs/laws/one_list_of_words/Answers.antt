use Rattle.sig_conditions.proofs.SpellingLemmas.{only_spelled, spelled}
use Rattle.sig_conditions.proofs.laws.one_list_of_words.Goals as goal

pub returns-clause-some : goal.returns-clause-some
returns-clause-some c = spelled

pub returns-clause-one : goal.returns-clause-one
returns-clause-one c = λ text ws h. only_spelled h
