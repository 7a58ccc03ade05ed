use Rattle.lucene_layout.proofs.Laid.{everything_sound}
use Rattle.lucene_layout.proofs.LeafRead.{leaf_is_sound}
use Rattle.lucene_layout.proofs.leaves.leaves_are_sound.Goals as goal

pub returns : goal.returns
returns c = record { everything = everything_sound; term = leaf_is_sound }
