use Rattle.lucene_layout.proofs.Ranges.{range_is_sound, range_is_read}
use Rattle.lucene_layout.proofs.leaves.ranges_are_read.Goals as goal

pub returns : goal.returns
returns c = record { sound = range_is_sound; read = range_is_read }
