use Rattle.std.proofs.Common.{◌≡◌, take}
use Rattle.pipeline_fill.specs.Made.{froms_of}
use Rattle.pipeline_fill.proofs.entries.copy_froms.Given as goal

abbrev pub invariant-loop-pair : goal.invariant-loop-pair
invariant-loop-pair l = l.froms ≡ froms_of (take l.pair-index l.pairs)
