use Rattle.yaml_blocks.proofs.First.{documents_before}
use Rattle.yaml_blocks.proofs.laws.documents_before.Goals as goal

pub returns : goal.returns
returns c = documents_before
