use Rattle.sql_layout.proofs.Laid.{layout_means}
use Rattle.sql_layout.proofs.halves.halved_layout_means_tree.Goals as goal

pub returns : goal.returns
returns c = λ fields t row. layout_means fields row t
