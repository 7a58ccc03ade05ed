-- The values of an event: a row has a list of values for each field of the schema, in their order.
use Rattle.std.specs.Prelude.{ℕ, zero, suc, List, [], ◌∷◌, map, Option, Some, None, position}
use Rattle.std.specs.Fmt.{signed_decimal}
use Rattle.std.specs.Str.{bytes_eq}
use Rattle.event_schema.specs.Occurrence.{Occurrence}
use Rattle.event_schema.specs.declared.schema.Field.{Field}
use Rattle.event_schema.specs.declared.schema.Schema.{Schema}
use Rattle.event_schema.specs.declared.value.Value.{Value}
use Rattle.event_schema.specs.declared.value.Value.TheVariants as values

-- the values of field k
abbrev pub field_values : List (List Value) → ℕ → List Value
field_values [] k = []
field_values (vs ∷ row) zero = vs
field_values (vs ∷ row) (suc k) = field_values row k

-- the first of a field's values
abbrev pub first_value : List Value → Option Value
first_value [] = None
first_value (v ∷ vs) = Some v

-- the first value of each field, or none: the columns of a table
abbrev pub first_values : List (List Value) → List (Option Value)
first_values row = map first_value row

-- a text, or a number's decimal
abbrev pub value_text : Value → List ℕ
value_text (values.Text text) = text
value_text (values.Whole n) = signed_decimal n

-- the number of the first field that has exactly this name
abbrev pub field_number : List Field → List ℕ → Option ℕ
field_number fields name = position (λ field. bytes_eq field.name name) fields

abbrev pub values_if_any : List (List Value) → Option ℕ → List Value
values_if_any row None = []
values_if_any row (Some k) = field_values row k

-- the values of the field of this name
abbrev pub values_at : Schema → Occurrence → List ℕ → List Value
values_at schema event name = values_if_any event.values (field_number schema.fields name)
