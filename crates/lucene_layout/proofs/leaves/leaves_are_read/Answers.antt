use Rattle.std.proofs.Common.{refl}
use Rattle.lucene_layout.proofs.LeafRead.{leaf_is_read}
use Rattle.lucene_layout.proofs.leaves.leaves_are_read.Goals as goal

pub returns : goal.returns
returns c = record { everything = λ fields. refl; term = leaf_is_read }
