use Rattle.modifier_words.proofs.CommonLemmas.{alone}
use Rattle.modifier_words.proofs.laws.encodings_stand_apart.Goals as goal

pub returns-clause-dashes : goal.returns-clause-dashes
returns-clause-dashes c keyword modifiers chain = (alone keyword modifiers chain).0

pub returns-clause-holes : goal.returns-clause-holes
returns-clause-holes c keyword modifiers chain = (alone keyword modifiers chain).1
