-- A column has the first of its field's values.
use Rattle.std.proofs.Common.{ℕ, zero, suc, ◌≡◌, List, [], ◌∷◌, refl}
use Rattle.event_schema.specs.Rows.{field_values, first_value, first_values}
use Rattle.event_schema.specs.declared.value.Value.{Value}
use Rattle.sql_lang.specs.Meaning.{value_at}

pub column_at : (row : List (List Value)) (k : ℕ) → value_at (first_values row) k ≡ first_value (field_values row k)
column_at [] k = refl
column_at (vs ∷ row) zero = refl
column_at (vs ∷ row) (suc k) = column_at row k
