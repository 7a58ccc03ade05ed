use Rattle.yaml_blocks.specs.Blocks.{is_content}
use Rattle.yaml_blocks.proofs.Fronts.{CountsFront}
use Rattle.yaml_blocks.proofs.content.count_content.Given as goal

abbrev pub invariant-loop-at : goal.invariant-loop-at
invariant-loop-at l = CountsFront (is_content l.least) l.lines l.at
