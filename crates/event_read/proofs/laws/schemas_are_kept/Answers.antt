use Rattle.event_read.proofs.SchemaLemmas.{schema_kept}
use Rattle.event_read.proofs.laws.schemas_are_kept.Goals as goal

pub returns : goal.returns
returns c = λ limits bytes schema is. schema_kept limits bytes schema is
