use Rattle.lucene_layout.proofs.Laid.{layout_reads_within, layout_scalars}
use Rattle.lucene_layout.proofs.laws.layout_is_read.Goals as goal

pub returns : goal.returns
returns c = record { scalars = layout_scalars; within = layout_reads_within }
