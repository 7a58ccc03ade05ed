-- The regular expressions that tests search for (modifier `re`).
use Rattle.std.specs.Prelude.{ℕ, List, Option, Some, None}
use Rattle.std.specs.List.{flat_map}
use Rattle.rule_detections.specs.References.{listed}
use Rattle.modifier_values.specs.Expressions.{expression_text}
use Rattle.rule_detections.specs.declared.test.Test.{Test}
use Rattle.rule_detections.specs.declared.test.Test.TheVariants as tests

-- the regular expression that a test searches for, if it searches for one
abbrev pub expression_of : Test → Option (List ℕ)
expression_of tests.Absent = None
expression_of (tests.Exists there) = None
expression_of (tests.Fits pattern cased) = None
expression_of (tests.Equals n) = None
expression_of (tests.Inside n) = None
expression_of (tests.Compare op n) = None
expression_of (tests.SameAs name) = None
expression_of (tests.Finds text flags) = Some (expression_text flags text)

-- the regular expressions of the tests of some values, in their order
abbrev pub expressions_in : List (List Test) → List (List ℕ)
expressions_in values = flat_map (λ value. flat_map (λ test. listed (expression_of test)) value) values
