use Rattle.std.proofs.Common.{◌≡◌, take}
use Rattle.yaml_inline.specs.Scalar.{literal}
use Rattle.yaml_blocks.specs.Chompings.{texts_view}
use Rattle.yaml_blocks.proofs.scalar.push_literal.Given as goal

abbrev pub invariant-loop-at : goal.invariant-loop-at
invariant-loop-at l = l.content ≡ literal (texts_view (take l.at l.texts))
