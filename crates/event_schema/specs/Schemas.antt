-- What every schema keeps.
use Rattle.std.specs.Prelude.{◌≡◌, ◌<◌, ◌^◌, ℕ, Bool, true, false, List, [], ◌∷◌, ◌++◌, codes, length, map, ⊤}
use Rattle.sig_base.specs.Folding.{folded}
use Rattle.event_schema.specs.Lists.{EachOf, HasElement}
use Rattle.event_schema.specs.Names.{IsName}
use Rattle.event_schema.specs.declared.schema.Field.{Field}
use Rattle.event_schema.specs.declared.schema.FieldKind.{FieldKind}
use Rattle.event_schema.specs.declared.schema.FieldKind.TheVariants as kinds
use Rattle.event_schema.specs.declared.schema.Schema.{Schema}

-- letters of either case taken for equal, no name in a list is this one
abbrev pub IsOther : List ℕ → List (List ℕ) → Type 0
IsOther name [] = ⊤
IsOther name (later ∷ names) = (folded later ≡ folded name → ⊥) × IsOther name names

-- and no later name is an earlier one
abbrev pub AreApart : List (List ℕ) → Type 0
AreApart [] = ⊤
AreApart (name ∷ names) = IsOther name names × AreApart names

-- the twin of a field in an index, which keeps the case of its texts
abbrev pub twin : List ℕ → List ℕ
twin name = name ++ codes ".cased"

-- keywords search texts alone
abbrev pub may_be_searched : FieldKind → Bool
may_be_searched kinds.Text = true
may_be_searched kinds.Whole = false
may_be_searched kinds.Address = false

-- numbers have no case to keep
abbrev pub may_be_cased : FieldKind → Bool
may_be_cased kinds.Text = true
may_be_cased kinds.Whole = false
may_be_cased kinds.Address = true

pub record IsField (field : Field) : Type 0 where
  pub name : IsName field.name
  pub at : HasElement field.at
  pub search : field.search ≡ true → may_be_searched field.kind ≡ true
  pub cased : field.cased ≡ true → may_be_cased field.kind ≡ true

abbrev pub names_of : List Field → List (List ℕ)
names_of fields = map (λ field. field.name) fields

-- Table and names are legal; letters of either case taken for equal, no two fields have one name and none has the name of
-- another's twin; and the fields can be numbered by 32 bits.
pub record IsSchema (schema : Schema) : Type 0 where
  pub table : IsName schema.table
  pub fields : EachOf IsField schema.fields
  pub apart : AreApart (names_of schema.fields)
  pub twins : EachOf (λ field. field.cased ≡ true → IsOther (twin field.name) (names_of schema.fields)) schema.fields
  pub few : length schema.fields < 2 ^ 32
