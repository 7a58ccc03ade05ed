use Rattle.std.proofs.Common.{◌≡◌, ◌++◌}
use Rattle.yaml_inline.specs.Scalar.{feeds}
use Rattle.yaml_blocks.proofs.texts.push_feeds.Given as goal

abbrev pub invariant-loop-added : goal.invariant-loop-added
invariant-loop-added l = l.content ≡ l.fn.content ++ feeds l._added
