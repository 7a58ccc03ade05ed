use Rattle.sqlite_writer.proofs.Apart.{field_scalars, fields_are_found}
use Rattle.sqlite_writer.proofs.laws.schemas_are_found.Goals as goal

pub returns : goal.returns
returns c = λ schema is.
    record { table = is.table.scalars; names = field_scalars schema.fields is.fields; found = fields_are_found schema.fields is.apart }
