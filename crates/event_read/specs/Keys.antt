-- The keys that objects of a schema's file may have, by what the object is.
use Rattle.std.specs.Prelude.{ℕ, List}
use Rattle.event_read.specs.SchemaOf.{schema_keys, field_keys, time_keys}
use Rattle.event_read.specs.declared.shapes.Keys.{Keys}
use Rattle.event_read.specs.declared.shapes.Keys.TheVariants.{Schema, Field, Time}

abbrev pub keys_of : Keys → List (List ℕ)
keys_of Schema = schema_keys
keys_of Field = field_keys
keys_of Time = time_keys
