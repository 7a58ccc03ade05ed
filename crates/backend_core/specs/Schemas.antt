-- Schemas for which backends write.
use Rattle.std.specs.Prelude.{◌≡◌, true}
use Rattle.event_schema.specs.Lists.{EachOf}
use Rattle.event_schema.specs.Names.{IsName}
use Rattle.event_schema.specs.Schemas.{IsField, IsOther, AreApart, twin, names_of}
use Rattle.event_schema.specs.declared.schema.Schema.{Schema}

-- What every schema keeps, but for the number of its fields: table and names are legal; letters of either case taken for equal,
-- no two fields have one name and none has the name of another's twin.
pub record IsNamed (schema : Schema) : Type 0 where
  pub table : IsName schema.table
  pub fields : EachOf IsField schema.fields
  pub apart : AreApart (names_of schema.fields)
  pub twins : EachOf (λ field. field.cased ≡ true → IsOther (twin field.name) (names_of schema.fields)) schema.fields
