use Rattle.yaml_documents.proofs.Files.{nodes_within_bytes, nodes_within_limit}
use Rattle.yaml_documents.proofs.bounds.nodes_are_few.Goals as goal

pub returns-clause-bytes : goal.returns-clause-bytes
returns-clause-bytes c = nodes_within_bytes

pub returns-clause-limit : goal.returns-clause-limit
returns-clause-limit c = nodes_within_limit
