-- Whether a tree holds of an event's row: of each leaf the values of the fields that it looks at decide, and the rest is two-valued.
use Rattle.std.specs.Prelude.{◌≡◌, ℤ, ◌≤ℤ◌, ◌<ℤ◌, true, List, ◌⊎◌, ⊤}
use Rattle.std.specs.Fmt.{signed_decimal}
use Rattle.event_schema.specs.Lists.{SomeOf, HasElement, HasNoElement}
use Rattle.event_schema.specs.Rows.{field_values, value_text}
use Rattle.event_schema.specs.declared.value.Value.{Value}
use Rattle.event_schema.specs.declared.value.Value.TheVariants.{Text, Whole}
use Rattle.query_lang.specs.Patterns.{finds}
use Rattle.sig_base.specs.Folding.{folded}
use Rattle.sig_strings.specs.Fits.{Fits}
use Rattle.backend_core.specs.declared.tree.LeafTest.{LeafTest}
use Rattle.backend_core.specs.declared.tree.LeafTest.TheVariants as tests
use Rattle.backend_core.specs.declared.tree.Op.{Op}
use Rattle.backend_core.specs.declared.tree.Op.TheVariants as ops
use Rattle.backend_core.specs.Trees.{Plain, all, any, negated, leaf, never, Plains, no_parts, a_part}

-- below, at most, above, at least
abbrev pub Stands : Op → ℤ → ℤ → Type 0
Stands ops.Lt m n = m <ℤ n
Stands ops.Lte m n = m ≤ℤ n
Stands ops.Gt m n = n <ℤ m
Stands ops.Gte m n = n ≤ℤ m

-- a number that stands so to this one, and no text
abbrev pub ValueStands : Op → ℤ → Value → Type 0
ValueStands op n (Text text) = ⊥
ValueStands op n (Whole m) = Stands op m n

-- the texts of two values are one after folding
abbrev pub AreSame : Value → Value → Type 0
AreSame v w = folded (value_text v) ≡ folded (value_text w)

-- What a test says of a field's values in a row: whether there is one, whether the pattern fits some value, some value is the number or
-- stands so to it, some value is the same as some value of another field, or the regular expression has a match in some value.
abbrev pub TestHolds : List (List Value) → LeafTest → List Value → Type 0
TestHolds row tests.Has values = HasElement values
TestHolds row tests.Absent values = HasNoElement values
TestHolds row (tests.Fits pattern cased) values = SomeOf (λ value. Fits pattern (value_text value) cased) values
TestHolds row (tests.Equals n) values = SomeOf (λ value. value_text value ≡ signed_decimal n) values
TestHolds row (tests.Compare op n) values = SomeOf (ValueStands op n) values
TestHolds row (tests.SameAs other) values = SomeOf (λ value. SomeOf (AreSame value) (field_values row other)) values
TestHolds row (tests.Finds expression) values = SomeOf (λ value. finds expression (value_text value) ≡ true) values

-- an all where each of its parts holds, an any where one of them does, a negated tree where its part doesn't, and one never
module _ (row : List (List Value)) where
  abbrev mutual
    pub TreeHolds : Plain → Type 0
    TreeHolds (all ts) = EachHolds ts
    TreeHolds (any ts) = OneHolds ts
    TreeHolds (negated t) = TreeHolds t → ⊥
    TreeHolds (leaf l) = TestHolds row l.test (field_values row l.field)
    TreeHolds never = ⊥

    pub EachHolds : Plains → Type 0
    EachHolds no_parts = ⊤
    EachHolds (a_part t ts) = TreeHolds t × EachHolds ts

    pub OneHolds : Plains → Type 0
    OneHolds no_parts = ⊥
    OneHolds (a_part t ts) = TreeHolds t ⊎ OneHolds ts
