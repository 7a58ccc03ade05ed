use Rattle.yaml_documents.proofs.Placing.{refused_on_the_line}
use Rattle.yaml_documents.proofs.laws.refused_on_the_line.Goals as goal

pub returns : goal.returns
returns c = refused_on_the_line
