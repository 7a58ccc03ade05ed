use Rattle.yaml_inline.specs.Line.{is_comment}
use Rattle.yaml_blocks.proofs.Fronts.{CountsFront}
use Rattle.yaml_blocks.proofs.inside.count_comments.Given as goal

abbrev pub invariant-loop-at : goal.invariant-loop-at
invariant-loop-at l = CountsFront is_comment l.lines l.at
