use Rattle.std.proofs.Common.{◌≡◌, ◌++◌, map, drop}
use Rattle.pipeline_fill.specs.Entries.{as_pairs}
use Rattle.pipeline_fill.specs.Made.{entries_view, found_of}
use Rattle.pipeline_fill.proofs.entries.list_values.Given as goal

abbrev pub invariant-loop-var : goal.invariant-loop-var
invariant-loop-var l = entries_view l.all.items ++ map found_of (as_pairs (drop l.var-index l.vars)) ≡ map found_of (as_pairs l.vars)
