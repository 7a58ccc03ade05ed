-- The regular expressions of an item, test by test.
use Rattle.std.proofs.Common.{ℕ, ◌≡◌, ◌∙◌, List, [], ◌∷◌, ◌++◌, refl, ap, map}
use Rattle.std.specs.Prelude.{Option, Some, None}
use Rattle.std.specs.List.{flat_map}
use Rattle.std.proofs.lemmas.List.{map-append}
use Rattle.rule_detections.specs.Expressions.{expression_at}
use Rattle.rule_detections.specs.declared.expression.Expression.{Expression}
use Rattle.rule_detections.specs.declared.item.Item.{Item}
use Rattle.rule_model.specs.Expressions.{item_expressions}
use Rattle.sig_base.specs.declared.refusal.Place.{Place}
use Rattle.rule_detections.specs.TestExpressions.{expression_of}
use Rattle.rule_detections.specs.References.{listed}
use Rattle.rule_detections.specs.declared.test.Test.{Test}

mapped : {A B C : Type 0} (g : B → C) (f : A → List B) (h : A → List C) → ((x : A) → map g (f x) ≡ h x) → (xs : List A) → map g (flat_map f xs) ≡ flat_map h xs
mapped g f h same [] = refl
mapped {C = C} g f h same (x ∷ xs) =
    map-append g (f x) (flat_map f xs)
    ∙ (ap (λ (ys : List C). ys ++ map g (flat_map f xs)) (same x) ∙ ap (λ (ys : List C). h x ++ ys) (mapped g f h same xs))

abbrev put_at : Place → List ℕ → Expression
put_at place text = record { place = place; text = text }

one_at : (place : Place) (o : Option (List ℕ)) → map (put_at place) (listed o) ≡ expression_at place o
one_at place None = refl
one_at place (Some text) = refl

pub item_by_test : (i : Item) → item_expressions i ≡ flat_map (flat_map (λ test. expression_at i.place (expression_of test))) i.tests
item_by_test i =
    mapped (put_at i.place) (flat_map (λ test. listed (expression_of test))) (flat_map (λ test. expression_at i.place (expression_of test)))
    (mapped (put_at i.place) (λ test. listed (expression_of test)) (λ test. expression_at i.place (expression_of test)) (λ test. one_at i.place (expression_of test)))
    i.tests
