use Rattle.lucene_writer.proofs.Indexed.{schema_indexed}
use Rattle.lucene_writer.proofs.laws.schemas_are_indexed.Goals as goal

pub returns : goal.returns
returns c = schema_indexed
