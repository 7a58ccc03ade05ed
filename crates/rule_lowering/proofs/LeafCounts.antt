-- The code's count is the number of a tree's tests, up to the greatest number.
use Rattle.std.proofs.Common.{false, ℕ, zero, suc, ◌≡◌, ◌+◌, ◌*◌, ◌≤◌, ◌^◌, min, refl, sym, ap, ◌∙◌, List, [], ◌∷◌, length, map, sum_by, slice_index, arith}
use Rattle.std.specs.Prelude.{Option, Some, None}
use Rattle.std.specs.List.{flat_map}
use Rattle.std.proofs.Math.Nat.{mul-suc, add-mul}
use Rattle.std.proofs.lemmas.List.{length-map}
use Rattle.std.proofs.lemmas.List.Sums.{sum_by-cons, sum_by-append}
use Rattle.backend_core.specs.FieldAt.{kind_at}
use Rattle.backend_core.specs.Trees.{Plain, all, any, negated, leaf, never, Plains, no_parts, a_part}
use Rattle.backend_core.specs.declared.tree.LeafTest.{LeafTest}
use Rattle.event_schema.specs.declared.schema.Field.{Field}
use Rattle.event_schema.specs.declared.schema.FieldKind.{FieldKind}
use Rattle.event_schema.specs.declared.schema.Schema.{Schema}
use Rattle.rule_model.specs.Plain.{PlainRule}
use Rattle.rule_detections.specs.declared.detection.Detection.{Detection}
use Rattle.rule_detections.specs.declared.item.Fields.{Fields}
use Rattle.rule_detections.specs.declared.item.Fields.TheVariants.{Keyword, Names}
use Rattle.rule_detections.specs.declared.item.Item.{Item}
use Rattle.sig_base.specs.declared.refusal.Place.{Place}
use Rattle.sig_conditions.specs.Formulas.{PlainFormula, FDetection, FNot, FAnd, FOr, PlainFormulas, no_forms, form, forms_of, form_view, forms_view, numbered}
use Rattle.sig_conditions.specs.declared.formula.Formula.{Formula}
use Rattle.modifier_words.specs.declared.modifier.Joined.{Joined}
use Rattle.modifier_words.specs.declared.modifier.Joined.TheVariants.{All, Any}
use Rattle.rule_detections.specs.declared.test.Test.{Test}
use Rattle.rule_detections.specs.declared.test.Test.TheVariants as tests
use Rattle.sig_strings.specs.declared.part.Part.{Part}
use Rattle.modifier_windash.specs.Choices.{choices, dash_count}
use Rattle.sig_encode.specs.Networks.{Net, pattern_count, patterns_of}
use Rattle.rule_lowering.specs.Counts.{test_count, value_count, values_count, width, item_count, alternative_count, alternatives_count, detection_counts, form_count, forms_count, rule_count}
use Rattle.rule_lowering.specs.Joining.{plains, listed, parts_of, tree_with, closed, join}
use Rattle.rule_lowering.specs.Leaves.{leaves, leaves_in}
use Rattle.rule_lowering.specs.TreeOf.{leaf_test, leaf_if_any, written_tree, written_tests, test_tree, value_tree, values_tree, keyword_tree, number_tree, fields_tree, item_tree, alternative_tree, detection_tree, numbered_tree, form_tree, form_trees, tree_of}
use Rattle.schema_index.specs.Numbers.{number_of, searched}

pub forms_within : (most : ℕ) (counts : List ℕ) (fs : PlainFormulas) → forms_count most counts fs ≤ most
forms_within most counts no_forms = omega arith
forms_within most counts (form f fs) = omega arith

pub forms_start : (most : ℕ) (counts : List ℕ) (fs : PlainFormulas) → min (0 + forms_count most counts fs) most ≡ forms_count most counts fs
forms_start most counts fs = let within = forms_within most counts fs in omega arith

-- ---- joining keeps the number of tests

total_listed : (ts : Plains) → sum_by leaves (listed ts) ≡ leaves_in ts
total_listed no_parts = refl
total_listed (a_part t ts) = sum_by-cons leaves t (listed ts) ∙ ap (λ n. leaves t + n) (total_listed ts)

total_plains : (ts : List Plain) → leaves_in (plains ts) ≡ sum_by leaves ts
total_plains [] = refl
total_plains (t ∷ ts) = ap (λ n. leaves t + n) (total_plains ts) ∙ sym (sum_by-cons leaves t ts)

one_total : (t : Plain) → sum_by leaves (t ∷ []) ≡ leaves t
one_total t = omega arith

total_parts : (j : Joined) (t : Plain) → sum_by leaves (parts_of j t) ≡ leaves t
total_parts All (all ts) = total_listed ts
total_parts All (any ts) = one_total (any ts)
total_parts All (negated t) = one_total (negated t)
total_parts All (leaf l) = one_total (leaf l)
total_parts All never = one_total never
total_parts Any (all ts) = one_total (all ts)
total_parts Any (any ts) = total_listed ts
total_parts Any (negated t) = one_total (negated t)
total_parts Any (leaf l) = one_total (leaf l)
total_parts Any never = one_total never

total_flat : (j : Joined) (ts : List Plain) → sum_by leaves (flat_map (parts_of j) ts) ≡ sum_by leaves ts
total_flat j [] = refl
total_flat j (t ∷ ts) =
    sum_by-append leaves (parts_of j t) (flat_map (parts_of j) ts)
    ∙ omega (arith, total_parts j t, total_flat j ts, sum_by-cons leaves t ts)

with_leaves : (j : Joined) (ts : Plains) → leaves (tree_with j ts) ≡ leaves_in ts
with_leaves All ts = refl
with_leaves Any ts = refl

closed_leaves : (j : Joined) (ts : List Plain) → leaves (closed j ts) ≡ sum_by leaves ts
closed_leaves j [] = with_leaves j no_parts
closed_leaves j (t ∷ []) = sym (one_total t)
closed_leaves j (t ∷ u ∷ ts) = with_leaves j (plains (t ∷ u ∷ ts)) ∙ total_plains (t ∷ u ∷ ts)

join_leaves : (j : Joined) (ts : List Plain) → leaves (join j ts) ≡ sum_by leaves ts
unfolding join
join_leaves j ts = closed_leaves j (flat_map (parts_of j) ts) ∙ total_flat j ts

sum_map : {A : Type 0} (f : A → Plain) (g : A → ℕ) → ((x : A) → leaves (f x) ≡ g x) → (xs : List A) → sum_by leaves (map f xs) ≡ sum_by g xs
sum_map f g same [] = refl
sum_map f g same (x ∷ xs) =
    sum_by-cons leaves (f x) (map f xs) ∙ omega (arith, same x, sum_map f g same xs, sum_by-cons g x xs)

join_map_leaves : {A : Type 0} (j : Joined) (f : A → Plain) (g : A → ℕ) → ((x : A) → leaves (f x) ≡ g x) → (xs : List A) → leaves (join j (map f xs)) ≡ sum_by g xs
join_map_leaves j f g same xs = join_leaves j (map f xs) ∙ sum_map f g same xs

-- ---- sums

sum_same : {A : Type 0} (n : ℕ) (xs : List A) → sum_by (λ x. n) xs ≡ n * length xs
sum_same n [] = omega arith
sum_same n (x ∷ xs) =
    let front : sum_by (λ y. n) (x ∷ xs) ≡ n + sum_by (λ y. n) xs = sum_by-cons (λ y. n) x xs in
    let behind : n * length (x ∷ xs) ≡ n * length xs + n = mul-suc n (length xs) in
    omega (arith, sum_same n xs)

sum_ones : {A : Type 0} (xs : List A) → sum_by (λ x. 1) xs ≡ length xs
sum_ones [] = refl
sum_ones (x ∷ xs) =
    let front : sum_by (λ y. 1) (x ∷ xs) ≡ 1 + sum_by (λ y. 1) xs = sum_by-cons (λ y. 1) x xs in
    omega (arith, sum_ones xs)

sum_times : {A : Type 0} (f : A → ℕ) (n : ℕ) (xs : List A) → sum_by (λ x. f x * n) xs ≡ sum_by f xs * n
sum_times f n [] = omega arith
sum_times f n (x ∷ xs) =
    let front : sum_by (λ y. f y * n) (x ∷ xs) ≡ f x * n + sum_by (λ y. f y * n) xs = sum_by-cons (λ y. f y * n) x xs in
    front ∙ (ap (λ m. f x * n + m) (sum_times f n xs) ∙ (sym (add-mul (f x) (sum_by f xs) n) ∙ ap (λ m. m * n) (sym (sum_by-cons f x xs))))

added : (a b x y z most : ℕ) → a ≡ min x most → b ≡ min y most → z ≡ x + y → min (a + b) most ≡ min z most
added a b x y z most e f g = omega arith

-- ---- each level

one_leaf : (place : Place) (n : ℕ) (test : Option LeafTest) → leaves (leaf_if_any place n test) ≡ 1
one_leaf place n None = refl
one_leaf place n (Some test) = refl

-- where a pattern has as many choices as its places tell, and a network as many patterns as its prefix
module _ (counted : (parts : List Part) → length (choices parts) ≡ 5 ^ dash_count parts) (networks_counted : (n : Net) → length (patterns_of n) ≡ pattern_count n) where
  written_count : (test : Test) → length (written_tests test) ≡ test_count test
  written_count tests.Absent = refl
  written_count (tests.Exists there) = refl
  written_count (tests.Fits parts cased) = length-map (choices parts) (λ chosen. tests.Fits chosen cased) ∙ counted parts
  written_count (tests.Equals n) = refl
  written_count (tests.Inside n) = length-map (patterns_of n) (λ pattern. tests.Fits pattern false) ∙ networks_counted n
  written_count (tests.Compare op n) = refl
  written_count (tests.SameAs name) = refl
  written_count (tests.Finds text flags) = refl

  module _ (fields : List Field) where
    test_leaves : (place : Place) (kind : FieldKind) (n : ℕ) (test : Test) → leaves (test_tree fields place kind n test) ≡ test_count test
    test_leaves place kind n test =
        join_map_leaves Any (written_tree fields place kind n) (λ t. 1) (λ t. one_leaf place n (leaf_test fields kind t)) (written_tests test)
        ∙ (sum_ones (written_tests test) ∙ written_count test)

    value_leaves : (place : Place) (kind : FieldKind) (n : ℕ) (ts : List Test) → leaves (value_tree fields place kind n ts) ≡ value_count ts
    value_leaves place kind n ts = join_map_leaves Any (test_tree fields place kind n) test_count (test_leaves place kind n) ts

    values_leaves : (place : Place) (j : Joined) (values : List (List Test)) (kind : FieldKind) (n : ℕ)
        → leaves (values_tree fields place j values kind n) ≡ values_count values
    values_leaves place j values kind n = join_map_leaves j (value_tree fields place kind n) value_count (value_leaves place kind n) values

    keyword_leaves : (place : Place) (ts : List Test) → leaves (keyword_tree fields place ts) ≡ value_count ts * length (searched fields)
    keyword_leaves place ts =
        join_map_leaves Any (λ n. value_tree fields place (kind_at fields n) n ts) (λ n. value_count ts) (λ n. value_leaves place (kind_at fields n) n ts) (searched fields)
        ∙ sum_same (value_count ts) (searched fields)

    fields_leaves : (place : Place) (j : Joined) (values : List (List Test)) (fs : Fields)
        → leaves (fields_tree fields place j values fs) ≡ values_count values * width (length (searched fields)) fs
    fields_leaves place j values Keyword =
        join_map_leaves j (keyword_tree fields place) (λ ts. value_count ts * length (searched fields)) (keyword_leaves place) values
        ∙ sum_times value_count (length (searched fields)) values
    fields_leaves place j values (Names names) =
        join_map_leaves Any (λ name. number_tree fields place j values (number_of fields name)) (λ name. values_count values)
        (λ name. values_leaves place j values (kind_at fields (number_of fields name)) (number_of fields name)) names
        ∙ sum_same (values_count values) names

    item_leaves : (i : Item) → leaves (item_tree fields i) ≡ item_count (length (searched fields)) i
    item_leaves i = fields_leaves i.place i.joined i.tests i.fields

    alternative_leaves : (items : List Item) → leaves (alternative_tree fields items) ≡ alternative_count (length (searched fields)) items
    alternative_leaves items = join_map_leaves All (item_tree fields) (item_count (length (searched fields))) item_leaves items

    detection_leaves : (d : Detection) → leaves (detection_tree fields d) ≡ alternatives_count (length (searched fields)) d.alternatives
    detection_leaves d = join_map_leaves Any (alternative_tree fields) (alternative_count (length (searched fields))) alternative_leaves d.alternatives

    -- ---- formulas, up to the greatest number

    module _ (most : ℕ) where
      abbrev counts : List Detection → List ℕ
      counts ds = detection_counts most (length (searched fields)) ds

      numbered_leaves : (ds : List Detection) (n : ℕ) → min (slice_index (counts ds) n) most ≡ min (leaves (numbered_tree fields ds n)) most
      numbered_leaves [] n = refl
      numbered_leaves (d ∷ ds) zero = omega (arith, detection_leaves d)
      numbered_leaves (d ∷ ds) (suc n) = numbered_leaves ds n

      mutual
        form_leaves : (ds : List Detection) (f : PlainFormula) → form_count most (counts ds) f ≡ min (leaves (form_tree fields ds f)) most
        form_leaves ds (FDetection n) = numbered_leaves ds n
        form_leaves ds (FNot f) = form_leaves ds f
        form_leaves ds (FAnd fs) = forms_leaves ds fs ∙ ap (λ n. min n most) (sym (join_leaves All (form_trees fields ds fs)))
        form_leaves ds (FOr fs) = forms_leaves ds fs ∙ ap (λ n. min n most) (sym (join_leaves Any (form_trees fields ds fs)))

        forms_leaves : (ds : List Detection) (fs : PlainFormulas) → forms_count most (counts ds) fs ≡ min (sum_by leaves (form_trees fields ds fs)) most
        forms_leaves ds no_forms = omega arith
        forms_leaves ds (form f fs) =
            added (form_count most (counts ds) f) (forms_count most (counts ds) fs) (leaves (form_tree fields ds f)) (sum_by leaves (form_trees fields ds fs))
            (sum_by leaves (form_tree fields ds f ∷ form_trees fields ds fs)) most (form_leaves ds f) (forms_leaves ds fs)
            (sum_by-cons leaves (form_tree fields ds f) (form_trees fields ds fs))

-- the trees of a list of formulas
pub form_trees_are : (fields : List Field) (ds : List Detection) (fs : List PlainFormula) → form_trees fields ds (forms_of fs) ≡ map (form_tree fields ds) fs
form_trees_are fields ds [] = refl
form_trees_are fields ds (f ∷ fs) = ap (λ (ts : List Plain). form_tree fields ds f ∷ ts) (form_trees_are fields ds fs)

pub rule_leaves : (counted : (parts : List Part) → length (choices parts) ≡ 5 ^ dash_count parts)
    (networks_counted : (n : Net) → length (patterns_of n) ≡ pattern_count n) (most : ℕ) (schema : Schema) (rule : PlainRule)
    → rule_count most (length (searched schema.fields)) rule ≡ min (leaves (tree_of schema rule)) most
rule_leaves counted networks_counted most schema rule =
    let fields = schema.fields in
    let ds = rule.detections in
    forms_leaves counted networks_counted fields most ds (forms_of rule.conditions)
    ∙ (ap (λ (ts : List Plain). min (sum_by leaves ts) most) (form_trees_are fields ds rule.conditions)
    ∙ ap (λ n. min n most) (sym (join_leaves Any (map (form_tree fields ds) rule.conditions))))

pub formula_trees_are : (fields : List Field) (ds : List Detection) (fs : List Formula)
    → form_trees fields ds (forms_of (forms_view fs)) ≡ map (λ f. form_tree fields ds (form_view f)) fs
formula_trees_are fields ds [] = refl
formula_trees_are fields ds (f ∷ fs) = ap (λ (ts : List Plain). form_tree fields ds (form_view f) ∷ ts) (formula_trees_are fields ds fs)

pub taken_trees_are : (fields : List Field) (ds : List Detection) (ns : List ℕ) → form_trees fields ds (forms_of (numbered ns)) ≡ map (numbered_tree fields ds) ns
taken_trees_are fields ds [] = refl
taken_trees_are fields ds (n ∷ ns) = ap (λ (ts : List Plain). numbered_tree fields ds n ∷ ts) (taken_trees_are fields ds ns)
