-- The values of a field, by the place of its element in the row.
use Rattle.std.proofs.Common.{◌≡◌, ℕ, zero, suc, ◌<◌, ◌≤◌, List, [], ◌∷◌, length, get_or, refl, sym, arith}
use Rattle.event_schema.specs.Rows.{field_values}
use Rattle.event_schema.specs.declared.value.Value.{Value}

pub values_within : (row : List (List Value)) (k : ℕ) (v : List Value) → k < length row → v ≡ get_or row k v → field_values row k ≡ v
values_within [] k v h e = absurd (omega arith)
values_within (w ∷ row) zero v h e = sym e
values_within (w ∷ row) (suc k) v h e = values_within row k v (omega arith) e

pub values_past : (row : List (List Value)) (k : ℕ) → length row ≤ k → field_values row k ≡ []
values_past [] k h = refl
values_past (w ∷ row) zero h = absurd (omega arith)
values_past (w ∷ row) (suc k) h = values_past row k (omega arith)
