use Rattle.std.proofs.Common.{◌≡◌, ◌++◌, drop}
use Rattle.event_schema.proofs.event.copy_row.Given as goal

abbrev pub invariant-loop-values : goal.invariant-loop-values
invariant-loop-values l = l.copies.items ++ drop l.values-index l.row ≡ l.row
