use Rattle.std.proofs.Common.{◌≡◌, ◌++◌, ◌-◌, ◌≤◌, length, drop}
use Rattle.yaml_inline.specs.Scalar.{folded}
use Rattle.yaml_blocks.specs.Chompings.{texts_view}
use Rattle.yaml_blocks.proofs.scalar.push_folded.Given as goal

abbrev pub invariant-loop-at : goal.invariant-loop-at
invariant-loop-at l = record {
  within : l.at ≤ length l.texts;
  far : l.content ++ folded (texts_view (drop l.at l.texts)) ≡ folded (texts_view l.texts);
}

abbrev pub decreases-loop-at : goal.decreases-loop-at
decreases-loop-at l = length l.texts - l.at
