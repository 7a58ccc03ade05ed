-- The numbers of a schema's fields, as the code keeps them.
use Rattle.std.specs.Prelude.{ℕ, ◌≡◌, ◌<◌, ◌^◌, List, length, IfSome}
use Rattle.std.specs.declared.option.Option.{Option}
use Rattle.event_schema.specs.Schemas.{names_of}
use Rattle.event_schema.specs.declared.schema.Field.{Field}
use Rattle.schema_index.specs.Numbers.{searched}
use Rattle.schema_index.specs.declared.numbers.FieldNumbers.{FieldNumbers}

-- where there is an index of names, it's of those of all fields
abbrev pub AreIndexed : List Field → Option (List (List ℕ)) → Type 0
AreIndexed fields index = IfSome index (λ names. names ≡ names_of fields)

-- an index of all names, if there is one, and the numbers of those that keywords search
pub record AreNumbered (fields : List Field) (numbers : FieldNumbers) : Type 0 where
  pub few : length fields < 2 ^ 32
  pub index : AreIndexed fields numbers.index
  pub searched : numbers.searched.items ≡ searched fields
