-- A rule with other tests that isn't refused: it's whole, and its patterns have few parts together.
use Rattle.std.proofs.Common.{suc, ◌≡◌, Bool, true, false, ◌&&◌, not, length, List, [], ◌∷◌, ◌++◌, map, refl, sym, subst, ap}
use Rattle.std.specs.Prelude.{Option, Some, None, if◌then◌else◌}
use Rattle.std.specs.List.{list_any}
use Rattle.std.proofs.lemmas.Bool.{or_parts}
use Rattle.event_schema.specs.Lists.{EachOf, HasElement}
use Rattle.sig_base.specs.Judged.{first}
use Rattle.sig_base.specs.declared.limits.Limits.{Limits}
use Rattle.sig_base.specs.declared.refusal.Place.{Place}
use Rattle.sig_base.specs.declared.refusal.Refusal.{Refusal}
use Rattle.sig_base.proofs.Checks.{first_holds, must_holds, not_holds}
use Rattle.rule_detections.specs.PlainTests.{IsPlainTest, ArePlainTests, IsPatternTest}
use Rattle.rule_detections.specs.declared.test.Test.{Test}
use Rattle.rule_detections.specs.declared.test.Test.TheVariants as tests
use Rattle.sig_strings.specs.declared.part.Part.{Part}
use Rattle.rule_detections.specs.Whole.{IsWholeValue, AreWholeFields, IsWholeItem, IsWholeAlternative, IsWholeDetection}
use Rattle.rule_detections.specs.declared.detection.Detection.{Detection}
use Rattle.rule_detections.specs.declared.item.Fields.{Fields}
use Rattle.rule_detections.specs.declared.item.Fields.TheVariants.{Keyword, Names}
use Rattle.rule_detections.specs.declared.item.Item.{Item}
use Rattle.rule_model.specs.Plain.{PlainRule}
use Rattle.rule_model.specs.Whole.{IsWholeForm, IsWhole}
use Rattle.pipeline_model.specs.declared.pipeline.Var.{Var}
use Rattle.pipeline_model.specs.declared.step.Action.{Action}
use Rattle.pipeline_model.specs.declared.step.Step.{Step}
use Rattle.pipeline_limits.specs.Sizes.{grown_refusal}
use Rattle.pipeline_fill.specs.Changed.{made_of, is_cased, as_tests, changed_test, changed_value, acts_on_fields, changed_item, changed_items, changed_detection, changed_detections, changed}
use Rattle.pipeline_fill.specs.Extent.{has_few_parts_together, extent_refusal}
use Rattle.pipeline_fill.specs.Grown.{is_open, are_open, open_item, open_items, open_detection, open_refusal, change_refusal}
use Rattle.pipeline_fill.specs.Kept.{MakesTests}
use Rattle.pipeline_fill.proofs.Plainness.{each_append, ArePlainParts, ArePut, has_plain_text, made_plain}

-- where a list has no refusal, none of its elements has one
each_none : {A : Type 0} (cause : A → Option Refusal) (xs : List A) → first (map cause xs) ≡ None → EachOf (λ x. cause x ≡ None) xs
each_none cause [] none = tt
each_none cause (x ∷ xs) none = let both = first_holds (cause x) (map cause xs) none in (both.0, each_none cause xs both.1)

some_map : {A B : Type 0} (f : A → B) (xs : List A) → HasElement xs → HasElement (map f xs)
some_map f [] h = absurd h
some_map f (x ∷ xs) h = tt

module _ {A : Type 0} (P Q : A → Type 0) (f : A → A) (step : (x : A) → P x → Q x → P (f x)) where
  each_step : (xs : List A) → EachOf P xs → EachOf Q xs → EachOf P (map f xs)
  each_step [] all none = tt
  each_step (x ∷ xs) all none = (step x all.0 none.0, each_step xs all.1 none.1)

-- ---- tests

each_fits : (cased : Bool) (patterns : List (List Part)) → EachOf ArePlainParts patterns → ArePlainTests (map (λ parts. tests.Fits parts cased) patterns)
each_fits cased [] all = tt
each_fits cased (p ∷ patterns) all = (has_plain_text p all.0, each_fits cased patterns all.1)

each_pattern : (cased : Bool) (patterns : List (List Part)) → EachOf IsPatternTest (map (λ parts. tests.Fits parts cased) patterns)
each_pattern cased [] = tt
each_pattern cased (p ∷ patterns) = (tt, each_pattern cased patterns)

put_test : (test : Test) (o : Option (List (List Part))) → IsPlainTest test → ArePut o → HasElement (as_tests test o) × ArePlainTests (as_tests test o)
put_test test None plain put = (tt, (plain, tt))
put_test test (Some patterns) plain put =
    (some_map (λ parts. tests.Fits parts (is_cased test)) patterns put.0, each_fits (is_cased test) patterns put.1)

put_pattern : (test : Test) (o : Option (List (List Part))) → IsPatternTest test → EachOf IsPatternTest (as_tests test o)
put_pattern test None pattern = (pattern, tt)
put_pattern test (Some patterns) pattern = each_pattern (is_cased test) patterns

module _ (vars : List Var) (action : Action) (own : MakesTests vars action) where
  test_stays : (test : Test) → IsPlainTest test → is_open vars action test ≡ false → HasElement (changed_test vars action test) × ArePlainTests (changed_test vars action test)
  test_stays tests.Absent plain closed = (tt, (plain, tt))
  test_stays (tests.Exists there) plain closed = (tt, (plain, tt))
  test_stays (tests.Fits parts cased) plain closed = put_test (tests.Fits parts cased) (made_of vars action parts) plain (made_plain vars action parts own plain closed)
  test_stays (tests.Equals n) plain closed = (tt, (plain, tt))
  test_stays (tests.Inside n) plain closed = (tt, (plain, tt))
  test_stays (tests.Compare op n) plain closed = (tt, (plain, tt))
  test_stays (tests.SameAs name) plain closed = (tt, (plain, tt))
  test_stays (tests.Finds text flags) plain closed = (tt, (plain, tt))

  pattern_stays : (test : Test) → IsPatternTest test → EachOf IsPatternTest (changed_test vars action test)
  pattern_stays tests.Absent pattern = absurd pattern
  pattern_stays (tests.Exists there) pattern = absurd pattern
  pattern_stays (tests.Fits parts cased) pattern = put_pattern (tests.Fits parts cased) (made_of vars action parts) pattern
  pattern_stays (tests.Equals n) pattern = absurd pattern
  pattern_stays (tests.Inside n) pattern = absurd pattern
  pattern_stays (tests.Compare op n) pattern = absurd pattern
  pattern_stays (tests.SameAs name) pattern = absurd pattern
  pattern_stays (tests.Finds text flags) pattern = (tt, tt)

  plain_value : (value : List Test) → ArePlainTests value → list_any (is_open vars action) value ≡ false → ArePlainTests (changed_value vars action value)
  plain_value [] plain closed = tt
  plain_value (test ∷ value) plain closed =
      let both = or_parts (is_open vars action test) (list_any (is_open vars action) value) closed in
      each_append IsPlainTest (changed_test vars action test) (changed_value vars action value) (test_stays test plain.0 both.0).1 (plain_value value plain.1 both.1)

  some_value : (value : List Test) → HasElement value → ArePlainTests value → list_any (is_open vars action) value ≡ false → HasElement (changed_value vars action value)
  some_value [] h plain closed = absurd h
  some_value (test ∷ value) h plain closed =
      let both = or_parts (is_open vars action test) (list_any (is_open vars action) value) closed in
      by (changed_test vars action test) (test_stays test plain.0 both.0).0
    where
      by : (ts : List Test) → HasElement ts → HasElement (ts ++ changed_value vars action value)
      by [] k = absurd k
      by (t ∷ ts) k = tt

  pattern_value : (value : List Test) → EachOf IsPatternTest value → EachOf IsPatternTest (changed_value vars action value)
  pattern_value [] all = tt
  pattern_value (test ∷ value) all =
      each_append IsPatternTest (changed_test vars action test) (changed_value vars action value) (pattern_stays test all.0) (pattern_value value all.1)

  whole_value : (value : List Test) → IsWholeValue value → list_any (is_open vars action) value ≡ false → IsWholeValue (changed_value vars action value)
  whole_value value whole closed = record { some = some_value value whole.some whole.each closed; each = plain_value value whole.each closed }

  whole_values : (values : List (List Test)) → EachOf IsWholeValue values → list_any (list_any (is_open vars action)) values ≡ false
      → EachOf IsWholeValue (map (changed_value vars action) values)
  whole_values [] all closed = tt
  whole_values (value ∷ values) all closed =
      let both = or_parts (list_any (is_open vars action) value) (list_any (list_any (is_open vars action)) values) closed in
      (whole_value value all.0 both.0, whole_values values all.1 both.1)

  pattern_values : (values : List (List Test)) → EachOf (λ value. EachOf IsPatternTest value) values → EachOf (λ value. EachOf IsPatternTest value) (map (changed_value vars action) values)
  pattern_values [] all = tt
  pattern_values (value ∷ values) all = (pattern_value value all.0, pattern_values values all.1)

  some_fields : (fields : Fields) (values : List (List Test)) → AreWholeFields fields values → AreWholeFields fields (map (changed_value vars action) values)
  some_fields Keyword values whole = pattern_values values whole
  some_fields (Names names) values whole = whole

  -- an item's values, where the step acts on it and where it doesn't
  values_stay : (b : Bool) (fields : Fields) (values : List (List Test)) → AreWholeFields fields values → HasElement values → EachOf IsWholeValue values
      → (b && list_any (list_any (is_open vars action)) values) ≡ false
      → (AreWholeFields fields (if b then map (changed_value vars action) values else values)) × (HasElement (if b then map (changed_value vars action) values else values))
      × (EachOf IsWholeValue (if b then map (changed_value vars action) values else values))
  values_stay true fields values whole some each closed =
      (some_fields fields values whole, some_map (changed_value vars action) values some, whole_values values each closed)
  values_stay false fields values whole some each closed = (whole, some, each)

-- ---- rules

module _ (vars : List Var) (step : Step) (own : MakesTests vars step.action) where
  item_closed : (i : Item) → open_item vars step i ≡ None → are_open vars step i.fields i.tests ≡ false
  item_closed i none = not_holds (are_open vars step i.fields i.tests) (must_holds 98 i.place (not (are_open vars step i.fields i.tests)) none)

  whole_item : (i : Item) → IsWholeItem i → open_item vars step i ≡ None → IsWholeItem (changed_item vars step i)
  whole_item i whole none =
      let parts = values_stay vars step.action own (acts_on_fields step i.fields) i.fields i.tests whole.fields whole.some whole.each (item_closed i none) in
      record { fields = parts.0; some = parts.1; each = parts.2 }

  whole_items : (items : List Item) → IsWholeAlternative items → open_items vars step items ≡ None → IsWholeAlternative (changed_items vars step items)
  whole_items items whole none = record {
    some = some_map (changed_item vars step) items whole.some;
    each = each_step IsWholeItem (λ i. open_item vars step i ≡ None) (changed_item vars step) whole_item items whole.each (each_none (open_item vars step) items none);
  }

  whole_detection : (d : Detection) → IsWholeDetection d → open_detection vars step d ≡ None → IsWholeDetection (changed_detection vars step d)
  whole_detection d whole none = record {
    some = some_map (changed_items vars step) d.alternatives whole.some;
    each =
        each_step IsWholeAlternative (λ items. open_items vars step items ≡ None) (changed_items vars step) whole_items d.alternatives whole.each
        (each_none (open_items vars step) d.alternatives none);
  }

  same_length : (ds : List Detection) → length (changed_detections vars step ds) ≡ length ds
  same_length [] = refl
  same_length (d ∷ ds) = ap suc (same_length ds)

  pub stays_whole : (limits : Limits) (rule : PlainRule) → IsWhole rule → change_refusal limits vars step rule.head.place rule.detections ≡ None
      → IsWhole (changed vars step rule)
  stays_whole limits rule whole none =
      let closed : open_refusal vars step rule.detections ≡ None =
      (first_holds (open_refusal vars step rule.detections) (grown_refusal limits rule.head.place (changed_detections vars step rule.detections) ∷ extent_refusal limits rule.head.place (changed_detections vars step rule.detections) ∷ []) none).0 in
      record {
        detections =
            each_step IsWholeDetection (λ d. open_detection vars step d ≡ None) (changed_detection vars step) whole_detection rule.detections whole.detections
            (each_none (open_detection vars step) rule.detections closed);
        some = whole.some;
        conditions = subst (λ n. EachOf (IsWholeForm n) rule.conditions) (sym (same_length rule.detections)) whole.conditions;
      }

pub few_together : (vars : List Var) (step : Step) (limits : Limits) (place : Place) (ds : List Detection) → change_refusal limits vars step place ds ≡ None
    → has_few_parts_together limits (changed_detections vars step ds) ≡ true
few_together vars step limits place ds none =
    let grown : Option Refusal = grown_refusal limits place (changed_detections vars step ds) in
    let extent : Option Refusal = extent_refusal limits place (changed_detections vars step ds) in
    let left = (first_holds (open_refusal vars step ds) (grown ∷ extent ∷ []) none).1 in
    let last = (first_holds grown (extent ∷ []) left).1 in
    must_holds 99 place (has_few_parts_together limits (changed_detections vars step ds)) (first_holds extent [] last).0
