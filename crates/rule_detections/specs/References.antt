-- The fields that tests compare with (modifier `fieldref`).
use Rattle.std.specs.Prelude.{ℕ, ◌≡◌, List, [], ◌∷◌, Option, Some, None}
use Rattle.std.specs.Borrow.{Bor}
use Rattle.std.specs.List.{flat_map}
use Rattle.rule_detections.specs.declared.test.Test.{Test}
use Rattle.rule_detections.specs.declared.test.Test.TheVariants as tests

-- the name of the field that a test compares with, if it compares with one
abbrev pub reference_of : Test → Option (List ℕ)
reference_of tests.Absent = None
reference_of (tests.Exists there) = None
reference_of (tests.Fits pattern cased) = None
reference_of (tests.Equals n) = None
reference_of (tests.Inside n) = None
reference_of (tests.Compare op n) = None
reference_of (tests.SameAs name) = Some name
reference_of (tests.Finds text flags) = None

abbrev pub listed : Option (List ℕ) → List (List ℕ)
listed None = []
listed (Some name) = name ∷ []

-- the names that the tests of some values compare with, in their order
abbrev pub references_in : List (List Test) → List (List ℕ)
references_in values = flat_map (λ value. flat_map (λ test. listed (reference_of test)) value) values

abbrev pub IsReference : Test → Option (Bor (List ℕ)) → Type 0
IsReference test None = reference_of test ≡ None
IsReference test (Some name) = reference_of test ≡ Some name.now
