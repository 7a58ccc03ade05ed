use Rattle.schema_index.proofs.Indexing.{found_is}
use Rattle.schema_index.proofs.numbers.find_indexed.Goals as goal

pub returns : goal.returns
returns c = found_is c.args.fields.now c.args.index.now c.args.name.now _ c.requires c.find.ensures
