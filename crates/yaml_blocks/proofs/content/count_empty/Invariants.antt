use Rattle.yaml_inline.specs.Line.{is_empty_line}
use Rattle.yaml_blocks.proofs.Fronts.{CountsFront}
use Rattle.yaml_blocks.proofs.content.count_empty.Given as goal

abbrev pub invariant-loop-at : goal.invariant-loop-at
invariant-loop-at l = CountsFront is_empty_line l.lines l.at
