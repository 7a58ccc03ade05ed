use Rattle.lucene_layout.proofs.Escapes.{pattern_text}
use Rattle.lucene_layout.proofs.leaves.patterns_are_written.Goals as goal

pub returns : goal.returns
returns c = pattern_text
