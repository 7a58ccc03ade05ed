-- The values of a field, however they are kept.
use Rattle.std.specs.Prelude.{List, [], ◌∷◌}
use Rattle.event_schema.specs.declared.value.Value.{Value}
use Rattle.event_schema.specs.declared.values.Kept.{Kept}
use Rattle.event_schema.specs.declared.values.Kept.TheVariants.{Nothing, One, Several}

abbrev pub kept_values : Kept → List Value
kept_values Nothing = []
kept_values (One value) = value ∷ []
kept_values (Several several) = several.items
