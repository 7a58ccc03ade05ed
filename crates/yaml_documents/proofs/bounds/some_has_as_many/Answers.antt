use Rattle.yaml_documents.proofs.Examples.{some_has_as_many}
use Rattle.yaml_documents.proofs.bounds.some_has_as_many.Goals as goal

pub returns : goal.returns
returns c = some_has_as_many
