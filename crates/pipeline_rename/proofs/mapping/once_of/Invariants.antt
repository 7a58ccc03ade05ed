use Rattle.std.proofs.Common.{◌≡◌, take}
use Rattle.pipeline_rename.specs.Made.{once_of as once_of_all}
use Rattle.pipeline_rename.proofs.mapping.once_of.Given as goal

abbrev pub invariant-loop-pair : goal.invariant-loop-pair
invariant-loop-pair l = l.all.items ≡ once_of_all (take l.pair-index l.pairs)
