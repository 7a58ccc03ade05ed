use Rattle.std.proofs.Common.{◌≡◌, map, take}
use Rattle.pipeline_fill.specs.Made.{entries_view, found_of}
use Rattle.pipeline_fill.proofs.entries.list_targets.Given as goal

abbrev pub invariant-loop-pair : goal.invariant-loop-pair
invariant-loop-pair l = entries_view l.all.items ≡ map found_of (take l.pair-index l.pairs)
