use Rattle.std.proofs.Common.{refl}
use Rattle.lucene_layout.proofs.Numbers.{star_taken, number_taken}
use Rattle.lucene_layout.proofs.leaves.numbers_are_taken.Goals as goal

pub returns : goal.returns
returns c = record { value = star_taken; number = number_taken; other = λ g gs. refl }
