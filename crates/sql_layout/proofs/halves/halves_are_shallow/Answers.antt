use Rattle.sql_layout.proofs.InHalves.{ors_shallow, ands_shallow}
use Rattle.sql_layout.proofs.halves.halves_are_shallow.Goals as goal

pub returns : goal.returns
returns c = record { ors = ors_shallow; ands = ands_shallow }
