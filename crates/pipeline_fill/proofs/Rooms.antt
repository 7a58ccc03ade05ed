-- The room of a rule that a step on values makes, by what is measured of it and by the names that it keeps.
use Rattle.std.proofs.Common.{ℕ, ◌<◌, ◌≤◌, max, nat_le, ◌≡◌, Bool, true, false, ◌&&◌, List, [], ◌∷◌, map, refl, sym, ap, ◌∙◌}
use native.Mathlib.Omega.{arith}
use Rattle.std.specs.Prelude.{Option, Some, None, if◌then◌else◌}
use Rattle.std.specs.List.{list_all, flat_map}
use Rattle.std.proofs.lemmas.Bool.{leb-true, leb-false, le-leb, lt-leb}
use Rattle.std.proofs.lemmas.List.Folds.{list_all-append}
use Rattle.event_schema.specs.Names.{is_legal}
use Rattle.sig_base.specs.declared.limits.Limits.{Limits}
use Rattle.rule_detections.specs.declared.test.Test.{Test}
use Rattle.rule_detections.specs.declared.test.Test.TheVariants as tests
use Rattle.sig_strings.specs.declared.part.Part.{Part}
use Rattle.rule_detections.specs.declared.detection.Detection.{Detection}
use Rattle.rule_detections.specs.declared.item.Item.{Item}
use Rattle.pipeline_model.specs.declared.pipeline.Var.{Var}
use Rattle.pipeline_model.specs.declared.step.Action.{Action}
use Rattle.pipeline_model.specs.declared.step.Step.{Step}
use Rattle.pipeline_limits.specs.Sizes.{of_items, names_in, name_count, test_count, compares_legally, has_legal_names, in_every, every_item, part_count, has_few_parts, has_short_patterns, has_room}
use Rattle.pipeline_fill.specs.Entries.{largest}
use Rattle.pipeline_fill.specs.Changed.{made_of, as_tests, changed_test, changed_value, acts_on_fields, changed_item, changed_items, changed_detection, changed_detections}
use Rattle.pipeline_fill.specs.Longest.{longest_value, longest_item, longest_items, longest_detection, longest_pattern}

-- ---- patterns that are all short

larger_fits : (a b most : ℕ) → nat_le (max a b) most ≡ (nat_le a most && nat_le b most)
larger_fits a b most = by (nat_le a most) (nat_le b most) refl refl
  where
    by : (x y : Bool) → nat_le a most ≡ x → nat_le b most ≡ y → nat_le (max a b) most ≡ (x && y)
    by true true e f = let h : a ≤ most = leb-true a most e in let k : b ≤ most = leb-true b most f in le-leb (max a b) most (omega (arith, h, k))
    by true false e f = let k : most < b = leb-false b most f in lt-leb (max a b) most (omega (arith, k))
    by false y e f = let h : most < a = leb-false a most e in lt-leb (max a b) most (omega (arith, h))

-- the largest is within a bound where each is
module _ {A : Type 0} (size : A → ℕ) (most : ℕ) (p : A → Bool) (same : (x : A) → nat_le (size x) most ≡ p x) where
  largest_fits : (xs : List A) → nat_le (largest size xs) most ≡ list_all p xs
  largest_fits [] = le-leb 0 most (omega arith)
  largest_fits (x ∷ xs) =
      larger_fits (size x) (largest size xs) most
      ∙ (ap (λ (b : Bool). b && nat_le (largest size xs) most) (same x) ∙ ap (λ (b : Bool). p x && b) (largest_fits xs))

short_value : (most : ℕ) (value : List Test) → nat_le (longest_value value) most ≡ list_all (has_few_parts most) value
short_value most value = largest_fits part_count most (has_few_parts most) (λ test. refl) value

short_item : (limits : Limits) (i : Item) → nat_le (longest_item i) limits.value_chars ≡ has_short_patterns limits i
short_item limits i = largest_fits longest_value limits.value_chars (list_all (has_few_parts limits.value_chars)) (short_value limits.value_chars) i.tests

short_items : (limits : Limits) (items : List Item) → nat_le (longest_items items) limits.value_chars ≡ list_all (has_short_patterns limits) items
short_items limits items = largest_fits longest_item limits.value_chars (has_short_patterns limits) (short_item limits) items

short_detection : (limits : Limits) (d : Detection) → nat_le (longest_detection d) limits.value_chars ≡ in_every (has_short_patterns limits) d
short_detection limits d = largest_fits longest_items limits.value_chars (list_all (has_short_patterns limits)) (short_items limits) d.alternatives

short_patterns : (limits : Limits) (ds : List Detection) → nat_le (longest_pattern ds) limits.value_chars ≡ every_item (has_short_patterns limits) ds
short_patterns limits ds = largest_fits longest_detection limits.value_chars (in_every (has_short_patterns limits)) (short_detection limits) ds

-- ---- names stay

and_true : (b : Bool) → (b && true) ≡ b
and_true true = refl
and_true false = refl

module _ {A : Type 0} (p : A → Bool) where
  -- what becomes of each element is as it is
  module _ (f : A → A) (same : (x : A) → p (f x) ≡ p x) where
    all_map : (xs : List A) → list_all p (map f xs) ≡ list_all p xs
    all_map [] = refl
    all_map (x ∷ xs) = ap (λ (b : Bool). b && list_all p (map f xs)) (same x) ∙ ap (λ (b : Bool). p x && b) (all_map xs)

  module _ (f : A → List A) (same : (x : A) → list_all p (f x) ≡ p x) where
    all_flat : (xs : List A) → list_all p (flat_map f xs) ≡ list_all p xs
    all_flat [] = refl
    all_flat (x ∷ xs) =
        list_all-append p (f x) (flat_map f xs)
        ∙ (ap (λ (b : Bool). b && list_all p (flat_map f xs)) (same x) ∙ ap (λ (b : Bool). p x && b) (all_flat xs))

no_references : (cased : Bool) (patterns : List (List Part)) → list_all compares_legally (map (λ parts. tests.Fits parts cased) patterns) ≡ true
no_references cased [] = refl
no_references cased (p ∷ patterns) = no_references cased patterns

put_legal : (parts : List Part) (cased : Bool) (o : Option (List (List Part))) → list_all compares_legally (as_tests (tests.Fits parts cased) o) ≡ true
put_legal parts cased None = refl
put_legal parts cased (Some patterns) = no_references cased patterns

module _ (vars : List Var) (action : Action) where
  test_legal : (test : Test) → list_all compares_legally (changed_test vars action test) ≡ compares_legally test
  test_legal tests.Absent = refl
  test_legal (tests.Exists there) = refl
  test_legal (tests.Fits parts cased) = put_legal parts cased (made_of vars action parts)
  test_legal (tests.Equals n) = refl
  test_legal (tests.Inside n) = refl
  test_legal (tests.Compare op n) = refl
  test_legal (tests.SameAs name) = and_true (is_legal name)
  test_legal (tests.Finds text flags) = refl

  value_legal : (value : List Test) → list_all compares_legally (changed_value vars action value) ≡ list_all compares_legally value
  value_legal value = all_flat compares_legally (changed_test vars action) test_legal value

  values_legal : (b : Bool) (values : List (List Test))
      → list_all (list_all compares_legally) (if b then map (changed_value vars action) values else values) ≡ list_all (list_all compares_legally) values
  values_legal true values = all_map (list_all compares_legally) (changed_value vars action) value_legal values
  values_legal false values = refl

module _ (vars : List Var) (step : Step) where
  item_legal : (i : Item) → has_legal_names (changed_item vars step i) ≡ has_legal_names i
  item_legal i = ap (λ (b : Bool). list_all is_legal (names_in i.fields) && b) (values_legal vars step.action (acts_on_fields step i.fields) i.tests)

  items_legal : (items : List Item) → list_all has_legal_names (changed_items vars step items) ≡ list_all has_legal_names items
  items_legal items = all_map has_legal_names (changed_item vars step) item_legal items

  detection_legal : (d : Detection) → in_every has_legal_names (changed_detection vars step d) ≡ in_every has_legal_names d
  detection_legal d = all_map (list_all has_legal_names) (changed_items vars step) items_legal d.alternatives

  detections_legal : (ds : List Detection) → every_item has_legal_names (changed_detections vars step ds) ≡ every_item has_legal_names ds
  detections_legal ds = all_map (in_every has_legal_names) (changed_detection vars step) detection_legal ds

-- ---- the room

and_swap : (a b c : Bool) → (a && b && c) ≡ (a && c && b)
and_swap true true c = sym (and_true c)
and_swap true false c = by c
  where
    by : (b : Bool) → false ≡ (b && false)
    by true = refl
    by false = refl
and_swap false b c = refl

-- by the three numbers, and by the names
abbrev numbers_fit : Limits → List Detection → Bool
numbers_fit limits ds =
    nat_le (of_items name_count ds) limits.grown && nat_le (of_items test_count ds) limits.grown && nat_le (longest_pattern ds) limits.value_chars

module _ (limits : Limits) (vars : List Var) (step : Step) (ds : List Detection) where
  room_measured : (numbers_fit limits (changed_detections vars step ds) && every_item has_legal_names ds) ≡ has_room limits (changed_detections vars step ds)
  room_measured =
      let made : List Detection = changed_detections vars step ds in
      let names : Bool = nat_le (of_items name_count made) limits.grown in
      let tests : Bool = nat_le (of_items test_count made) limits.grown in
      ap (λ (b : Bool). numbers_fit limits made && b) (sym (detections_legal vars step ds))
      ∙ (ap (λ (b : Bool). (names && tests && b) && every_item has_legal_names made) (short_patterns limits made)
      ∙ and_swap (names && tests) (every_item (has_short_patterns limits) made) (every_item has_legal_names made))

  pub room_by_names : (fit legal : Bool) → fit ≡ numbers_fit limits (changed_detections vars step ds) → fit ≡ true → legal ≡ every_item has_legal_names ds
      → legal ≡ has_room limits (changed_detections vars step ds)
  room_by_names fit legal fits holds is = is ∙ (ap (λ (b : Bool). b && every_item has_legal_names ds) (sym holds ∙ fits) ∙ room_measured)

  pub no_room : (fit : Bool) → fit ≡ numbers_fit limits (changed_detections vars step ds) → fit ≡ false → fit ≡ has_room limits (changed_detections vars step ds)
  no_room fit fits fails = fails ∙ (ap (λ (b : Bool). b && every_item has_legal_names ds) (sym fails ∙ fits) ∙ room_measured)
