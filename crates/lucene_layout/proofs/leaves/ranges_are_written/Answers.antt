use Rattle.lucene_layout.proofs.Ranges.{range_text}
use Rattle.lucene_layout.proofs.leaves.ranges_are_written.Goals as goal

pub returns : goal.returns
returns c = range_text
