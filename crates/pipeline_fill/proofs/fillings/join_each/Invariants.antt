use Rattle.std.proofs.Common.{◌≡◌, ◌++◌, drop}
use Rattle.pipeline_fill.specs.Filled.{crossed}
use Rattle.pipeline_fill.proofs.fillings.join_each.Given as goal

abbrev pub invariant-loop-front : goal.invariant-loop-front
invariant-loop-front l = l.all.items ++ crossed (drop l.front-index l.fronts) l.more ≡ crossed l.fronts l.more
