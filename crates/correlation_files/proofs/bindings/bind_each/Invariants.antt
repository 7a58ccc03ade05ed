use Rattle.std.proofs.Common.{List, map, take}
use Rattle.std.specs.List.{AllZip}
use Rattle.correlation_read.specs.Binding.{names_of_head}
use Rattle.correlation_files.proofs.Binds.{AllJudged}
use Rattle.correlation_files.specs.Found.{IsKept, Named}
use Rattle.correlation_files.proofs.bindings.bind_each.Given as goal

abbrev pub invariant-loop-sourced : goal.invariant-loop-sourced
invariant-loop-sourced l =
    (all : List Named) → AllZip IsKept all l.correlations → AllJudged (map names_of_head l.heads) l.schema.fields (take l.sourced-index all) l.bindings
