-- The kind of a field, as a query finds it by the field's name, and as an event has it.
use Rattle.std.proofs.Common.{ℕ, zero, suc, ◌≡◌, refl, Bool, true, false, if◌then◌else◌, List, [], ◌∷◌}
use Rattle.std.specs.Prelude.{ℤ, Option, Some, None, ⊤}
use Rattle.std.specs.Str.{all_scalars}
use Rattle.event_schema.specs.Events.{IsEvent, IsOfKind}
use Rattle.event_schema.specs.Lists.{EachOf}
use Rattle.event_schema.specs.Rows.{first_value, first_values}
use Rattle.event_schema.specs.Schemas.{names_of}
use Rattle.event_schema.specs.declared.schema.Field.{Field}
use Rattle.event_schema.specs.declared.schema.FieldKind.{FieldKind}
use Rattle.event_schema.specs.declared.schema.FieldKind.TheVariants as kinds
use Rattle.event_schema.specs.declared.value.Value.{Value}
use Rattle.event_schema.specs.declared.value.Value.TheVariants as values
use Rattle.backend_core.specs.FieldAt.{kind_at, name_at}
use Rattle.sql_lang.specs.Faults.{is_not_whole}
use Rattle.sql_lang.specs.Meaning.{value_at}
use Rattle.sql_lang.specs.Names.{is_named, column_of, kind_of, next}
use Rattle.sqlite_writer.specs.Schemas.{AreScalars}

-- ---- names

pub name_scalars : (fields : List Field) (k : ℕ) → AreScalars (names_of fields) → all_scalars (name_at fields k) ≡ true
name_scalars [] k scalars = refl
name_scalars (field ∷ fields) zero scalars = scalars.0
name_scalars (field ∷ fields) (suc k) scalars = name_scalars fields k scalars.1

-- what a field behind the first one is found at
next_is : (o : Option ℕ) (k : ℕ) → next o ≡ Some k → (m : ℕ) × (o ≡ Some m) × (k ≡ suc m)
next_is None k h = absurd cc
next_is (Some m) k h = (m, refl, cc)

pub kind_found : (fields : List Field) (name : List ℕ) (k : ℕ) → column_of fields name ≡ Some k → kind_of fields name ≡ Some (kind_at fields k)
kind_found [] name k h = absurd cc
kind_found (field ∷ fields) name k h = by (is_named field.name name) refl h (λ m e. kind_found fields name m e) where
  by : (b : Bool) → is_named field.name name ≡ b → (if b then Some 0 else next (column_of fields name)) ≡ Some k
      → ((m : ℕ) → column_of fields name ≡ Some m → kind_of fields name ≡ Some (kind_at fields m))
      → kind_of (field ∷ fields) name ≡ Some (kind_at (field ∷ fields) k)
  by true is g more = let first : k ≡ 0 = cc in rw (is, first) refl
  by false is g more = let m = next_is (column_of fields name) k g in rw (is, m.2) (more m.0 m.1)

pub not_a_number : (kind : FieldKind) → (kind ≡ kinds.Whole → ⊥) → is_not_whole (Some kind) ≡ true
not_a_number kinds.Text other = refl
not_a_number kinds.Whole other = absurd (other refl)
not_a_number kinds.Address other = refl

-- ---- values

-- a value of the kind, or none
abbrev pub IsOfKindIfAny : FieldKind → Option Value → Type 0
IsOfKindIfAny kind None = ⊤
IsOfKindIfAny kind (Some v) = IsOfKind kind v

first_of_kind : (kind : FieldKind) (all : List Value) → EachOf (IsOfKind kind) all → IsOfKindIfAny kind (first_value all)
first_of_kind kind [] h = tt
first_of_kind kind (v ∷ all) h = h.0

pub event_kinds : (fields : List Field) (row : List (List Value)) (k : ℕ) → IsEvent fields row
    → IsOfKindIfAny (kind_at fields k) (value_at (first_values row) k)
event_kinds [] [] k event = tt
event_kinds [] (all ∷ row) k event = absurd event
event_kinds (field ∷ fields) [] k event = absurd event
event_kinds (field ∷ fields) (all ∷ row) zero event = first_of_kind field.kind all event.0.kinds
event_kinds (field ∷ fields) (all ∷ row) (suc k) event = event_kinds fields row k event.1

-- only fields of whole numbers have numbers
pub no_number : (kind : FieldKind) (n : ℤ) → (kind ≡ kinds.Whole → ⊥) → IsOfKind kind (values.Whole n) → ⊥
no_number kinds.Text n other h = h
no_number kinds.Whole n other h = other refl
no_number kinds.Address n other h = h
