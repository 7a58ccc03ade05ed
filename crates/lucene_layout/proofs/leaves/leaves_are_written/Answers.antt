use Rattle.lucene_layout.proofs.Escapes.{leaf_text}
use Rattle.lucene_layout.proofs.leaves.leaves_are_written.Goals as goal

pub returns : goal.returns
returns c = leaf_text
