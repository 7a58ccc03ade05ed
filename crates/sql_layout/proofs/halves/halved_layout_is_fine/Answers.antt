use Rattle.sql_layout.proofs.Laid.{fine_layout}
use Rattle.sql_layout.proofs.halves.halved_layout_is_fine.Goals as goal

pub returns : goal.returns
returns c = fine_layout
