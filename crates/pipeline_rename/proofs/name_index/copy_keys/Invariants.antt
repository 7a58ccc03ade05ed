use Rattle.std.proofs.Common.{◌≡◌, take}
use Rattle.pipeline_rename.specs.Made.{keys_of}
use Rattle.pipeline_rename.proofs.name_index.copy_keys.Given as goal

abbrev pub invariant-loop-pair : goal.invariant-loop-pair
invariant-loop-pair l = l.keys ≡ keys_of (take l.pair-index l.pairs)
