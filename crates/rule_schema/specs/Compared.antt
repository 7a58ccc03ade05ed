-- The names that tests compare with, test by test.
use Rattle.std.specs.Prelude.{ℕ, List}
use Rattle.std.specs.List.{flat_map}
use Rattle.rule_detections.specs.References.{reference_of, listed}
use Rattle.rule_detections.specs.declared.test.Test.{Test}

abbrev pub test_names : Test → List (List ℕ)
test_names test = listed (reference_of test)

abbrev pub value_names : List Test → List (List ℕ)
value_names value = flat_map test_names value

abbrev pub values_names : List (List Test) → List (List ℕ)
values_names values = flat_map value_names values
