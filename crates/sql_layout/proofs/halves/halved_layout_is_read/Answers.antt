use Rattle.sql_layout.proofs.Laid.{layout_reads}
use Rattle.sql_layout.proofs.halves.halved_layout_is_read.Goals as goal

pub returns : goal.returns
returns c = layout_reads c.written_is_read.ensures
