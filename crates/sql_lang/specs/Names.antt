-- The names of a query: the table's and the columns', which are those of a schema, letters of either case taken for equal.
use Rattle.std.specs.Prelude.{ℕ, suc, if◌then◌else◌, Bool, List, [], ◌∷◌, Option, Some, None}
use Rattle.std.specs.Str.{bytes_eq}
use Rattle.event_schema.specs.declared.schema.Field.{Field}
use Rattle.event_schema.specs.declared.schema.FieldKind.{FieldKind}
use Rattle.sig_base.specs.Folding.{folded}

abbrev pub is_named : List ℕ → List ℕ → Bool
is_named a b = bytes_eq (folded a) (folded b)

abbrev pub next : Option ℕ → Option ℕ
next None = None
next (Some k) = Some (suc k)

-- the place of the first field of this name, counted from 0
abbrev pub column_of : List Field → List ℕ → Option ℕ
column_of [] name = None
column_of (field ∷ fields) name = if is_named field.name name then Some 0 else next (column_of fields name)

-- its kind
abbrev pub kind_of : List Field → List ℕ → Option FieldKind
kind_of [] name = None
kind_of (field ∷ fields) name = if is_named field.name name then Some field.kind else kind_of fields name
