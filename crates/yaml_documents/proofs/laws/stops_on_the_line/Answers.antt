use Rattle.yaml_documents.proofs.OneMore.{stops_on_the_line}
use Rattle.yaml_documents.proofs.laws.stops_on_the_line.Goals as goal

pub returns : goal.returns
returns c = stops_on_the_line
