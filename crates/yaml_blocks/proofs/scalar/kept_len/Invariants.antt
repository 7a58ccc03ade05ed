use Rattle.std.proofs.Common.{◌≡◌, ◌≤◌, length, take}
use Rattle.yaml_inline.specs.Scalar.{drop_empty}
use Rattle.yaml_blocks.specs.Chompings.{texts_view}
use Rattle.yaml_blocks.proofs.scalar.kept_len.Given as goal

abbrev pub invariant-loop-end : goal.invariant-loop-end
invariant-loop-end l = (l.end ≤ length l.texts) × (drop_empty (texts_view (take l.end l.texts)) ≡ drop_empty (texts_view l.texts))

abbrev pub decreases-loop-end : goal.decreases-loop-end
decreases-loop-end l = l.end
