-- Fields by their numbers, which are their places in the schema's list, from 0.
use Rattle.std.specs.Prelude.{ℕ, zero, suc, Bool, false, List, [], ◌∷◌}
use Rattle.event_schema.specs.declared.schema.Field.{Field}
use Rattle.event_schema.specs.declared.schema.FieldKind.{FieldKind}
use Rattle.event_schema.specs.declared.schema.FieldKind.TheVariants as kinds

-- the name of field k, which is empty behind the last field
abbrev pub name_at : List Field → ℕ → List ℕ
name_at [] k = []
name_at (field ∷ fields) zero = field.name
name_at (field ∷ fields) (suc k) = name_at fields k

-- the kind of field k; behind the last field it's that of texts
abbrev pub kind_at : List Field → ℕ → FieldKind
kind_at [] k = kinds.Text
kind_at (field ∷ fields) zero = field.kind
kind_at (field ∷ fields) (suc k) = kind_at fields k

-- whether field k may have several values
abbrev pub is_many : List Field → ℕ → Bool
is_many [] k = false
is_many (field ∷ fields) zero = field.many
is_many (field ∷ fields) (suc k) = is_many fields k
