use Rattle.yaml_blocks.proofs.First.{one_tree}
use Rattle.yaml_blocks.proofs.laws.one_tree.Goals as goal

pub returns : goal.returns
returns c = one_tree
