use Rattle.yaml_blocks.proofs.Sound.{reads_trees}
use Rattle.yaml_blocks.proofs.Complete.{reads_all}
use Rattle.yaml_blocks.proofs.laws.reads_exactly.Goals as goal

pub returns-clause-trees : goal.returns-clause-trees
returns-clause-trees c = reads_trees

pub returns-clause-all : goal.returns-clause-all
returns-clause-all c = reads_all
