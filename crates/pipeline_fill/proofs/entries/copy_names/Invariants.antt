use Rattle.std.proofs.Common.{◌≡◌, ◌++◌, drop}
use Rattle.pipeline_fill.specs.Entries.{as_pairs}
use Rattle.pipeline_fill.specs.Made.{froms_of}
use Rattle.pipeline_fill.proofs.entries.copy_names.Given as goal

abbrev pub invariant-loop-var : goal.invariant-loop-var
invariant-loop-var l = l.names ++ froms_of (as_pairs (drop l.var-index l.vars)) ≡ froms_of (as_pairs l.vars)
