-- An event as contracts see it.
use Rattle.std.specs.Prelude.{◌-◌, ◌^◌, ℤ, pos, negsuc, ◌≤ℤ◌, List, Option, Some, None, ⊤}
use Rattle.event_schema.specs.declared.value.Value.{Value}

-- the values of each field, in the order of the schema's fields, and the moment in nanoseconds since 1970 in UTC
pub record Occurrence : Type 0 where
  pub values : List (List Value)
  pub moment : Option ℤ

-- from -2^100 to 2^100
abbrev pub IsMoment : ℤ → Type 0
IsMoment n = (negsuc (2 ^ 100 - 1) ≤ℤ n) × (n ≤ℤ pos (2 ^ 100))

abbrev pub IsMomentIfAny : Option ℤ → Type 0
IsMomentIfAny None = ⊤
IsMomentIfAny (Some n) = IsMoment n
