-- The names that tests compare with, one after the other.
use Rattle.std.proofs.Common.{ℕ, ◌≡◌, List, [], ◌∷◌, ◌++◌, refl, ap, ◌∙◌}
use Rattle.rule_detections.specs.References.{references_in}
use Rattle.rule_detections.specs.declared.test.Test.{Test}
use Rattle.rule_detections.specs.declared.test.Test.TheVariants as tests
use Rattle.rule_schema.specs.Compared.{value_names, values_names}

value_first : (value : List Test) (values : List (List Test)) → references_in (value ∷ values) ≡ value_names value ++ references_in values
value_first [] values = refl
value_first (tests.Absent ∷ value) values = value_first value values
value_first (tests.Exists there ∷ value) values = value_first value values
value_first (tests.Fits pattern cased ∷ value) values = value_first value values
value_first (tests.Equals n ∷ value) values = value_first value values
value_first (tests.Inside n ∷ value) values = value_first value values
value_first (tests.Compare op n ∷ value) values = value_first value values
value_first (tests.Finds text flags ∷ value) values = value_first value values
value_first (tests.SameAs name ∷ value) values = ap (λ (names : List (List ℕ)). name ∷ names) (value_first value values)

pub names_compared : (values : List (List Test)) → references_in values ≡ values_names values
names_compared [] = refl
names_compared (value ∷ values) = value_first value values ∙ ap (λ (names : List (List ℕ)). value_names value ++ names) (names_compared values)
