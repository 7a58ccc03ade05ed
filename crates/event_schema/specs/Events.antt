-- Events of a schema: each field has a list of values of its kind, of at most one where the field isn't one of several.
use Rattle.std.specs.Prelude.{◌≡◌, ℕ, ◌-◌, ◌^◌, ◌≤◌, nat_lt, ℤ, pos, negsuc, ◌≤ℤ◌, true, false, List, [], ◌∷◌, length, ⊤}
use Rattle.std.specs.List.{list_all}
use Rattle.std.specs.Str.{all_scalars}
use Rattle.event_schema.specs.Addresses.{IsAddress}
use Rattle.event_schema.specs.Lists.{EachOf}
use Rattle.event_schema.specs.declared.schema.Field.{Field}
use Rattle.event_schema.specs.declared.schema.FieldKind.{FieldKind}
use Rattle.event_schema.specs.declared.schema.FieldKind.TheVariants as kinds
use Rattle.event_schema.specs.declared.value.Value.{Value}
use Rattle.event_schema.specs.declared.value.Value.TheVariants as values

-- a text without U+0000
abbrev pub IsPlainText : List ℕ → Type 0
IsPlainText text = (all_scalars text ≡ true) × (list_all (λ c. nat_lt 0 c) text ≡ true)

-- a whole number from -(2^63 - 1) to 2^63 - 1
abbrev pub IsWholeNumber : ℤ → Type 0
IsWholeNumber n = (negsuc (2 ^ 63 - 2) ≤ℤ n) × (n ≤ℤ pos (2 ^ 63 - 1))

abbrev pub IsOfKind : FieldKind → Value → Type 0
IsOfKind kinds.Text (values.Text text) = IsPlainText text
IsOfKind kinds.Text (values.Whole n) = ⊥
IsOfKind kinds.Whole (values.Text text) = ⊥
IsOfKind kinds.Whole (values.Whole n) = IsWholeNumber n
IsOfKind kinds.Address (values.Text text) = IsPlainText text × IsAddress text
IsOfKind kinds.Address (values.Whole n) = ⊥

-- each is of the field's kind, and where the field isn't one of several values there is at most one
pub record AreValuesOf (field : Field) (all : List Value) : Type 0 where
  pub kinds : EachOf (IsOfKind field.kind) all
  pub few : field.many ≡ false → length all ≤ 1

-- the values of an event, in the order of the fields
abbrev pub IsEvent : List Field → List (List Value) → Type 0
IsEvent [] [] = ⊤
IsEvent [] (all ∷ row) = ⊥
IsEvent (field ∷ fields) [] = ⊥
IsEvent (field ∷ fields) (all ∷ row) = AreValuesOf field all × IsEvent fields row
