-- The numbers of a schema's fields.
use Rattle.std.specs.Prelude.{ℕ, List, length, map, filter, unwrap_or}
use Rattle.event_schema.specs.Rows.{field_number}
use Rattle.event_schema.specs.declared.schema.Field.{Field}

module _ (fields : List Field) where
  -- the number of the field of this name; where there is none, the number behind the last field's
  abbrev pub number_of : List ℕ → ℕ
  number_of name = unwrap_or (field_number fields name) (length fields)

  -- the fields that keywords search, in their order
  abbrev pub searched : List ℕ
  searched = map (λ field. number_of field.name) (filter (λ field. field.search) fields)
