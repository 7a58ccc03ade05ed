-- Whether a test holds of a field's values (Sigma specification 2.0, detection items; null and modifiers).
use Rattle.std.specs.Prelude.{◌≡◌, ◌≤ℤ◌, ◌<ℤ◌, ℕ, ℤ, true, false, List}
use Rattle.std.specs.Fmt.{signed_decimal}
use Rattle.event_schema.specs.Lists.{SomeOf, HasElement, HasNoElement}
use Rattle.event_schema.specs.Rows.{value_text}
use Rattle.event_schema.specs.declared.value.Value.{Value}
use Rattle.event_schema.specs.declared.value.Value.TheVariants as values
use Rattle.query_lang.specs.Patterns.{finds}
use Rattle.modifier_words.specs.declared.modifier.Op.{Op}
use Rattle.modifier_words.specs.declared.modifier.Op.TheVariants as ops
use Rattle.sig_base.specs.Folding.{folded}
use Rattle.sig_encode.specs.Networks.{InNetwork}
use Rattle.sig_strings.specs.Fits.{Fits}
use Rattle.modifier_values.specs.Expressions.{expression_text}
use Rattle.rule_detections.specs.declared.test.Test.{Test}
use Rattle.rule_detections.specs.declared.test.Test.TheVariants as tests

-- how a number stands to the one of a rule
abbrev pub Stands : Op → ℤ → ℤ → Type 0
Stands ops.Lt n own = own <ℤ n
Stands ops.Lte n own = own ≤ℤ n
Stands ops.Gt n own = n <ℤ own
Stands ops.Gte n own = n ≤ℤ own

-- a whole number that stands so to the rule's; no text does
abbrev pub ValueStands : Op → ℤ → Value → Type 0
ValueStands op n (values.Text text) = ⊥
ValueStands op n (values.Whole own) = Stands op n own

-- two values have one text, where A to Z are taken for a to z; a number has its decimal
abbrev pub AreSame : Value → Value → Type 0
AreSame value other = folded (value_text value) ≡ folded (value_text other)

-- Of an event that has for the field of each name a list of values: two tests ask whether there is a value; each other one
-- holds where some value satisfies it, a number by its decimal, or as a number where it's compared with one. A regular
-- expression is satisfied where it has a match anywhere in the value.
module _ (named : List ℕ → List Value) where
  abbrev pub Holds : Test → List Value → Type 0
  Holds tests.Absent values = HasNoElement values
  Holds (tests.Exists true) values = HasElement values
  Holds (tests.Exists false) values = HasNoElement values
  Holds (tests.Fits parts cased) values = SomeOf (λ value. Fits parts (value_text value) cased) values
  Holds (tests.Equals n) values = SomeOf (λ value. value_text value ≡ signed_decimal n) values
  Holds (tests.Inside n) values = SomeOf (λ value. InNetwork n (value_text value)) values
  Holds (tests.Compare op n) values = SomeOf (ValueStands op n) values
  Holds (tests.SameAs name) values = SomeOf (λ value. SomeOf (AreSame value) (named name)) values
  Holds (tests.Finds text flags) values = SomeOf (λ value. finds (expression_text flags text) (value_text value) ≡ true) values
