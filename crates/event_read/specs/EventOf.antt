-- The event that a line is, seen through a schema.
use Rattle.std.specs.Prelude.{ℕ, List, [], ◌∷◌, Bool, if◌then◌else◌, ℤ, Option, Some, None, Result, Ok, Err, is_some}
use Rattle.serde_json.specs.Data.{Data}
use Rattle.serde_json.specs.Find.{as_object}
use Rattle.event_read.specs.Json.{json_of}
use Rattle.event_read.specs.Paths.{found}
use Rattle.event_read.specs.Takes.{Takings, take_values}
use Rattle.event_read.specs.Moments.{moment_of}
use Rattle.event_schema.specs.Occurrence.{Occurrence}
use Rattle.event_schema.specs.declared.schema.Field.{Field}
use Rattle.event_schema.specs.declared.schema.FieldKind.{FieldKind}
use Rattle.event_schema.specs.declared.schema.Schema.{Schema}
use Rattle.event_schema.specs.declared.value.Value.{Value}

-- the values of each field, or the code for which the line is no event
abbrev pub Row : Type 0
Row = Result (List (List Value)) ℕ

-- what a field takes of what its keys lead to, if they lead to something
abbrev pub take_if_any : FieldKind → Bool → Option Data → Takings
take_if_any kind many None = Ok []
take_if_any kind many (Some d) = take_values kind many d

abbrev pub field_of : Field → Data → Takings
field_of field d = take_if_any field.kind field.many (found field.at d)

-- a field's values, and those of the fields behind it, or the first refusal
abbrev pub in_front : List Value → Row → Row
in_front values (Ok rows) = Ok (values ∷ rows)
in_front values (Err code) = Err code

abbrev pub row_step : Takings → Row → Row
row_step (Ok values) rest = in_front values rest
row_step (Err code) rest = Err code

-- the values of the fields in their order, or the code of the first that is refused
abbrev pub row_of : List Field → Data → Row
row_of [] d = Ok []
row_of (field ∷ fields) d = row_step (field_of field d) (row_of fields d)

-- the values of an object; another value is no event
abbrev pub values_of : List Field → Data → Row
values_of fields d = if is_some (as_object d) then row_of fields d else Err 25

-- the values and the moment
abbrev pub with_moment : Option ℤ → Row → Result Occurrence ℕ
with_moment moment (Ok values) = Ok (record { values = values; moment = moment })
with_moment moment (Err code) = Err code

abbrev pub event_in : Schema → Data → Result Occurrence ℕ
event_in schema d = with_moment (moment_of schema.time d) (values_of schema.fields d)

abbrev pub event_read : Schema → Option Data → Result Occurrence ℕ
event_read schema None = Err 25
event_read schema (Some d) = event_in schema d

-- the event that a line is, or the code for which it is none
abbrev pub event_of : Schema → List ℕ → Result Occurrence ℕ
event_of schema line = event_read schema (json_of line)
