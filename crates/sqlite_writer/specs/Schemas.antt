-- Schemas whose fields are found by their names, and names of characters.
use Rattle.std.specs.Prelude.{ℕ, ◌≡◌, ◌<◌, true, List, [], ◌∷◌, length, Some, ⊤}
use Rattle.std.specs.Str.{all_scalars}
use Rattle.event_schema.specs.Schemas.{names_of}
use Rattle.event_schema.specs.declared.schema.Schema.{Schema}
use Rattle.sql_lang.specs.Names.{column_of}
use Rattle.backend_core.specs.FieldAt.{name_at}

-- each name is of characters
abbrev pub AreScalars : List (List ℕ) → Type 0
AreScalars [] = ⊤
AreScalars (name ∷ names) = (all_scalars name ≡ true) × AreScalars names

-- table and names are of characters, and letters of either case taken for equal each field is the first one of its name
pub record IsFoundSchema (schema : Schema) : Type 0 where
  pub table : all_scalars schema.table ≡ true
  pub names : AreScalars (names_of schema.fields)
  pub found : (k : ℕ) → k < length schema.fields → column_of schema.fields (name_at schema.fields k) ≡ Some k
