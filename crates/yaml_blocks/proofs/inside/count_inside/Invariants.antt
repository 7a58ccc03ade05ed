use Rattle.yaml_blocks.specs.Blocks.{inside}
use Rattle.yaml_blocks.proofs.Fronts.{CountsFront}
use Rattle.yaml_blocks.proofs.inside.count_inside.Given as goal

abbrev pub invariant-loop-at : goal.invariant-loop-at
invariant-loop-at l = CountsFront (inside l.in_map l.level) l.lines l.at
