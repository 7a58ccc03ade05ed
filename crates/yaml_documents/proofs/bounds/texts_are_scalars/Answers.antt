use Rattle.yaml_documents.proofs.FileTexts.{texts_are_scalars}
use Rattle.yaml_documents.proofs.bounds.texts_are_scalars.Goals as goal

pub returns : goal.returns
returns c = texts_are_scalars
