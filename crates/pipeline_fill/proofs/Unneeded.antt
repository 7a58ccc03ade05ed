-- Variables decide nothing where no placeholder stands.
use Rattle.std.proofs.Common.{◌≡◌, Bool, true, false, ◌||◌, ◌++◌, List, [], ◌∷◌, map, refl, ap, sym, ◌∙◌, subst, Result}
use Rattle.std.specs.Prelude.{Option, Some, None, if◌then◌else◌, not, ◌&&◌}
use Rattle.std.specs.List.{list_any, list_all, flat_map}
use Rattle.std.proofs.lemmas.Bool.{and_parts}
use Rattle.sig_base.specs.Judged.{must, first, Judged}
use Rattle.sig_base.specs.declared.limits.Limits.{Limits}
use Rattle.sig_base.specs.declared.refusal.Fault.{Fault}
use Rattle.sig_base.specs.declared.refusal.Place.{Place}
use Rattle.sig_base.specs.declared.refusal.Refusal.{Refusal}
use Rattle.rule_detections.specs.PlainTests.{is_filled_test}
use Rattle.rule_detections.specs.declared.test.Test.{Test}
use Rattle.rule_detections.specs.declared.test.Test.TheVariants as tests
use Rattle.sig_strings.specs.declared.part.Part.{Part}
use Rattle.sig_strings.specs.declared.part.Part.TheVariants.{Char, One, Run, Dash, Hole}
use Rattle.modifier_values.specs.PlainPatterns.{is_filled}
use Rattle.rule_detections.specs.declared.detection.Detection.{Detection}
use Rattle.rule_detections.specs.declared.item.Fields.{Fields}
use Rattle.rule_detections.specs.declared.item.Item.{Item}
use Rattle.pipeline_model.specs.declared.pipeline.Var.{Var}
use Rattle.pipeline_model.specs.declared.step.Action.{Action}
use Rattle.pipeline_model.specs.declared.step.Action.TheVariants.{MapNames, Prefix, Suffix, MapPrefixes, Drop, Add, Source, MapTexts, FillHoles, WildHoles, FailRule, FailItem}
use Rattle.pipeline_model.specs.declared.step.Step.{Step}
use Rattle.pipeline_limits.specs.Sizes.{grown_refusal}
use Rattle.pipeline_fill.specs.Changed.{made_of, put_in, as_tests, changed_test, changed_value, acts_on_fields, changed_values, changed_item, changed_items, changed_detection, changed_detections}
use Rattle.pipeline_fill.specs.Extent.{extent_refusal}
use Rattle.pipeline_fill.specs.Filled.{is_chosen, filled, lacks_values}
use Rattle.pipeline_fill.specs.Grown.{leaves_open, is_open, open_item, open_items, open_detection, open_refusal, change_refusal}
use Rattle.pipeline_fill.specs.Unfilled.{is_filled_item, is_filled_detection, are_filled}

-- what is the same of each element that the predicate holds of
module _ {A B : Type 0} (p : A → Bool) where
  map_same : (f g : A → B) → ((x : A) → p x ≡ true → f x ≡ g x) → (xs : List A) → list_all p xs ≡ true → map f xs ≡ map g xs
  map_same f g same [] all = refl
  map_same f g same (x ∷ xs) all =
      let both = and_parts (p x) (list_all p xs) all in
      ap (λ y. y ∷ map f xs) (same x both.0) ∙ ap (λ ys. g x ∷ ys) (map_same f g same xs both.1)

  flat_same : (f g : A → List B) → ((x : A) → p x ≡ true → f x ≡ g x) → (xs : List A) → list_all p xs ≡ true → flat_map f xs ≡ flat_map g xs
  flat_same f g same [] all = refl
  flat_same f g same (x ∷ xs) all =
      let both = and_parts (p x) (list_all p xs) all in
      ap (λ ys. ys ++ flat_map f xs) (same x both.0) ∙ ap (λ ys. g x ++ ys) (flat_same f g same xs both.1)

any_same : {A : Type 0} (p f g : A → Bool) → ((x : A) → p x ≡ true → f x ≡ g x) → (xs : List A) → list_all p xs ≡ true → list_any f xs ≡ list_any g xs
any_same p f g same [] all = refl
any_same p f g same (x ∷ xs) all =
    let both = and_parts (p x) (list_all p xs) all in
    ap (λ b. b || list_any f xs) (same x both.0) ∙ ap (λ b. g x || b) (any_same p f g same xs both.1)

none_of : {A : Type 0} (p f : A → Bool) → ((x : A) → p x ≡ true → f x ≡ false) → (xs : List A) → list_all p xs ≡ true → list_any f xs ≡ false
none_of p f none [] all = refl
none_of p f none (x ∷ xs) all =
    let both = and_parts (p x) (list_all p xs) all in
    ap (λ b. b || list_any f xs) (none x both.0) ∙ none_of p f none xs both.1

-- ---- parts

unchosen : (action : Action) (part : Part) → is_filled part ≡ true → is_chosen action part ≡ false
unchosen action (Char c) is = refl
unchosen action One is = refl
unchosen action Run is = refl
unchosen action Dash is = refl
unchosen action (Hole name) is = absurd cc

lacks_none : (vars : List Var) (action : Action) (part : Part) → is_filled part ≡ true → lacks_values vars action part ≡ false
lacks_none vars action (Char c) is = refl
lacks_none vars action One is = refl
lacks_none vars action Run is = refl
lacks_none vars action Dash is = refl
lacks_none vars action (Hole name) is = absurd cc

-- ---- a step under these variables and under those

module _ (vars others : List Var) where
  filled_same : (action : Action) (parts : List Part) → list_all is_filled parts ≡ true
      → (if list_any (is_chosen action) parts then Some (filled others action parts) else None) ≡ (if list_any (is_chosen action) parts then Some (filled vars action parts) else None)
  filled_same action parts all =
      let none = none_of is_filled (is_chosen action) (unchosen action) parts all in
      ap (λ (b : Bool). if b then Some (filled others action parts) else None) none ∙ sym (ap (λ (b : Bool). if b then Some (filled vars action parts) else None) none)

  made_same : (action : Action) (parts : List Part) → list_all is_filled parts ≡ true → made_of others action parts ≡ made_of vars action parts
  made_same (MapNames pairs) parts all = refl
  made_same (Prefix front) parts all = refl
  made_same (Suffix back) parts all = refl
  made_same (MapPrefixes pairs) parts all = refl
  made_same Drop parts all = refl
  made_same (Add items negated) parts all = refl
  made_same (Source source) parts all = refl
  made_same (MapTexts pairs) parts all = refl
  made_same (FillHoles choice) parts all = filled_same (FillHoles choice) parts all
  made_same (WildHoles choice) parts all = filled_same (WildHoles choice) parts all
  made_same (FailRule message) parts all = refl
  made_same (FailItem message) parts all = refl

  none_lacking : (action : Action) (parts : List Part) → list_all is_filled parts ≡ true → list_any (lacks_values others action) parts ≡ list_any (lacks_values vars action) parts
  none_lacking action parts all =
      none_of is_filled (lacks_values others action) (lacks_none others action) parts all ∙ sym (none_of is_filled (lacks_values vars action) (lacks_none vars action) parts all)

  opens_same : (action : Action) (parts : List Part) → list_all is_filled parts ≡ true → leaves_open others action parts ≡ leaves_open vars action parts
  opens_same (MapNames pairs) parts all = refl
  opens_same (Prefix front) parts all = refl
  opens_same (Suffix back) parts all = refl
  opens_same (MapPrefixes pairs) parts all = refl
  opens_same Drop parts all = refl
  opens_same (Add items negated) parts all = refl
  opens_same (Source source) parts all = refl
  opens_same (MapTexts pairs) parts all = refl
  opens_same (FillHoles choice) parts all = none_lacking (FillHoles choice) parts all
  opens_same (WildHoles choice) parts all = none_lacking (WildHoles choice) parts all
  opens_same (FailRule message) parts all = refl
  opens_same (FailItem message) parts all = refl

  -- ---- tests

  put_same : (action : Action) (test : Test) → is_filled_test test ≡ true → put_in others action test ≡ put_in vars action test
  put_same action tests.Absent is = refl
  put_same action (tests.Exists there) is = refl
  put_same action (tests.Fits parts cased) is = made_same action parts is
  put_same action (tests.Equals n) is = refl
  put_same action (tests.Inside n) is = refl
  put_same action (tests.Compare op n) is = refl
  put_same action (tests.SameAs name) is = refl
  put_same action (tests.Finds text flags) is = refl

  open_same : (action : Action) (test : Test) → is_filled_test test ≡ true → is_open others action test ≡ is_open vars action test
  open_same action tests.Absent is = refl
  open_same action (tests.Exists there) is = refl
  open_same action (tests.Fits parts cased) is = opens_same action parts is
  open_same action (tests.Equals n) is = refl
  open_same action (tests.Inside n) is = refl
  open_same action (tests.Compare op n) is = refl
  open_same action (tests.SameAs name) is = refl
  open_same action (tests.Finds text flags) is = refl

  test_same : (action : Action) (test : Test) → is_filled_test test ≡ true → changed_test others action test ≡ changed_test vars action test
  test_same action test is = ap (as_tests test) (put_same action test is)

  value_same : (action : Action) (value : List Test) → list_all is_filled_test value ≡ true → changed_value others action value ≡ changed_value vars action value
  value_same action value all = flat_same is_filled_test (changed_test others action) (changed_test vars action) (test_same action) value all

  -- ---- items and what holds them

  values_same : (step : Step) (fields : Fields) (values : List (List Test)) → list_all (list_all is_filled_test) values ≡ true
      → changed_values others step fields values ≡ changed_values vars step fields values
  values_same step fields values all = by (acts_on_fields step fields)
    where
      by : (b : Bool) → (if b then map (changed_value others step.action) values else values) ≡ (if b then map (changed_value vars step.action) values else values)
      by true = map_same (list_all is_filled_test) (changed_value others step.action) (changed_value vars step.action) (value_same step.action) values all
      by false = refl

  item_same : (step : Step) (i : Item) → is_filled_item i ≡ true → changed_item others step i ≡ changed_item vars step i
  item_same step i all =
      ap (λ (values : List (List Test)). record { fields = i.fields; tests = values; joined = i.joined; place = i.place }) (values_same step i.fields i.tests all)

  items_same : (step : Step) (items : List Item) → list_all is_filled_item items ≡ true → changed_items others step items ≡ changed_items vars step items
  items_same step items all = map_same is_filled_item (changed_item others step) (changed_item vars step) (item_same step) items all

  detection_same : (step : Step) (d : Detection) → is_filled_detection d ≡ true → changed_detection others step d ≡ changed_detection vars step d
  detection_same step d all =
      ap (λ (alternatives : List (List Item)). record { name = d.name; alternatives = alternatives; place = d.place })
      (map_same (list_all is_filled_item) (changed_items others step) (changed_items vars step) (items_same step) d.alternatives all)

  pub detections_same : (step : Step) (ds : List Detection) → are_filled ds ≡ true → changed_detections others step ds ≡ changed_detections vars step ds
  detections_same step ds all = map_same is_filled_detection (changed_detection others step) (changed_detection vars step) (detection_same step) ds all

  -- ---- refusals

  line_same : (step : Step) (i : Item) → is_filled_item i ≡ true → open_item others step i ≡ open_item vars step i
  line_same step i all =
      ap (λ (b : Bool). must 98 i.place (not (acts_on_fields step i.fields && b)))
      (any_same (list_all is_filled_test) (list_any (is_open others step.action)) (list_any (is_open vars step.action))
      (λ value filled. any_same is_filled_test (is_open others step.action) (is_open vars step.action) (open_same step.action) value filled) i.tests all)

  lines_same : (step : Step) (items : List Item) → list_all is_filled_item items ≡ true → open_items others step items ≡ open_items vars step items
  lines_same step items all = ap first (map_same is_filled_item (open_item others step) (open_item vars step) (line_same step) items all)

  of_detection : (step : Step) (d : Detection) → is_filled_detection d ≡ true → open_detection others step d ≡ open_detection vars step d
  of_detection step d all = ap first (map_same (list_all is_filled_item) (open_items others step) (open_items vars step) (lines_same step) d.alternatives all)

  pub refusal_same : (limits : Limits) (step : Step) (place : Place) (ds : List Detection) → are_filled ds ≡ true
      → change_refusal limits others step place ds ≡ change_refusal limits vars step place ds
  refusal_same limits step place ds all =
      ap (λ (r : Option Refusal). first (r ∷ grown_refusal limits place (changed_detections others step ds) ∷ extent_refusal limits place (changed_detections others step ds) ∷ []))
      (ap first (map_same is_filled_detection (open_detection others step) (open_detection vars step) (of_detection step) ds all))
      ∙ ap (λ (made : List Detection). first (open_refusal vars step ds ∷ grown_refusal limits place made ∷ extent_refusal limits place made ∷ [])) (detections_same step ds all)

-- what is answered by one of two lists, and of two refusals, that are the same
pub judged_same : (made other : List Detection) (refusal cause : Option Refusal) (result : Result (List Detection) Fault) → made ≡ other → refusal ≡ cause
    → Judged (λ ds. ds ≡ made) refusal result → Judged (λ ds. ds ≡ other) cause result
judged_same made other refusal cause result same too judged =
    subst (λ (r : Option Refusal). Judged (λ ds. ds ≡ other) r result) too (subst (λ (l : List Detection). Judged (λ ds. ds ≡ l) refusal result) same judged)
