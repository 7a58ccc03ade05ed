-- A whole rule stays whole.
use Rattle.std.proofs.Common.{ℕ, suc, ◌<◌, ◌≤◌, ◌≡◌, Bool, true, false, cond, length, List, [], ◌∷◌, ◌++◌, map, filter, refl, sym, subst, ap}
use native.Mathlib.Omega.{arith}
use Rattle.std.specs.Prelude.{None, Some, if◌then◌else◌, not}
use Rattle.std.specs.List.{list_any}
use Rattle.std.proofs.lemmas.Bool.{or_parts}
use Rattle.event_schema.specs.Lists.{EachOf, HasElement}
use Rattle.event_schema.specs.Names.{IsName}
use Rattle.sig_base.specs.Judged.{first}
use Rattle.sig_base.specs.declared.limits.Limits.{Limits}
use Rattle.sig_base.specs.declared.refusal.Place.{Place}
use Rattle.sig_base.proofs.Checks.{must_holds, not_holds, first_holds}
use Rattle.sig_conditions.specs.Formulas.{PlainFormula, FDetection, FNot, FAnd, FOr, PlainFormulas, no_forms, form}
use Rattle.yaml_tree.specs.Nodes.{is_empty}
use Rattle.rule_detections.specs.Whole.{IsWholeValue, AreWholeFields, IsWholeItem, IsWholeAlternative, IsWholeDetection}
use Rattle.rule_detections.specs.declared.detection.Detection.{Detection}
use Rattle.rule_detections.specs.declared.item.Fields.{Fields}
use Rattle.rule_detections.specs.declared.item.Fields.TheVariants.{Keyword, Names}
use Rattle.rule_detections.specs.declared.item.Item.{Item}
use Rattle.rule_model.specs.Plain.{PlainRule}
use Rattle.rule_model.specs.Whole.{IsWholeForm, AreSomeForms, AreWholeForms, IsWhole}
use Rattle.pipeline_model.specs.Concerned.{concerns_keywords}
use Rattle.pipeline_model.specs.declared.step.Action.{Action}
use Rattle.pipeline_model.specs.declared.step.Action.TheVariants.{MapNames, Prefix, Suffix, MapPrefixes, Drop, Add, Source, MapTexts, FillHoles, WildHoles, FailRule, FailItem}
use Rattle.pipeline_model.specs.declared.step.Step.{Step}
use Rattle.pipeline_limits.specs.Sizes.{grown_refusal}
use Rattle.pipeline_edit.specs.Added.{placed, added_detection, added_form, and_also, and_each, with_condition}
use Rattle.pipeline_edit.specs.Dropped.{stays, names_if_any, kept_fields, with_fields, kept_item, kept_items, kept_detection, kept_detections, dropped, emptied, emptied_refusal}
use Rattle.pipeline_edit.specs.Kept.{AddsWhole}
use Rattle.pipeline_edit.specs.Steps.{acted, cause, changed, change_refusal}

-- ---- lists

each_append : {A : Type 0} (P : A → Type 0) (xs ys : List A) → EachOf P xs → EachOf P ys → EachOf P (xs ++ ys)
each_append P [] ys a b = b
each_append P (x ∷ xs) ys a b = (a.0, each_append P xs ys a.1 b)

each_filter : {A : Type 0} (P : A → Type 0) (p : A → Bool) (xs : List A) → EachOf P xs → EachOf P (filter p xs)
each_filter P p [] all = tt
each_filter P p (x ∷ xs) all = by (p x) (each_filter P p xs all.1)
  where
    by : (b : Bool) → EachOf P (filter p xs) → EachOf P (cond b (x ∷ filter p xs) (filter p xs))
    by true rest = (all.0, rest)
    by false rest = rest

some_map : {A B : Type 0} (f : A → B) (xs : List A) → HasElement xs → HasElement (map f xs)
some_map f [] h = absurd h
some_map f (x ∷ xs) h = tt

each_map : {A B : Type 0} (P : A → Type 0) (Q : B → Type 0) (f : A → B) → ((x : A) → P x → Q (f x)) → (xs : List A) → EachOf P xs → EachOf Q (map f xs)
each_map P Q f step [] all = tt
each_map P Q f step (x ∷ xs) all = (step x all.0, each_map P Q f step xs all.1)

same_length : {A B : Type 0} (f : A → B) (xs : List A) → length (map f xs) ≡ length xs
same_length f [] = refl
same_length f (x ∷ xs) = ap suc (same_length f xs)

longer : {A : Type 0} (xs : List A) (x : A) → length (xs ++ x ∷ []) ≡ suc (length xs)
longer [] x = refl
longer (y ∷ xs) x = ap suc (longer xs x)

-- ---- names that are dropped

module _ (step : Step) where
  -- an item with some of its names
  with_names : (i : Item) → HasElement i.tests → EachOf IsWholeValue i.tests → (names : List (List ℕ)) → EachOf IsName names → EachOf IsWholeItem (with_fields i (names_if_any names))
  with_names i some each [] all = tt
  with_names i some each (n ∷ ns) all = (record { fields = (tt, all); some = some; each = each }, tt)

  by_fields : (i : Item) (f : Fields) → AreWholeFields f i.tests → HasElement i.tests → EachOf IsWholeValue i.tests → EachOf IsWholeItem (with_fields i (kept_fields step f))
  by_fields i Keyword fields some each = by (concerns_keywords step)
    where
      by : (b : Bool) → EachOf IsWholeItem (with_fields i (if b then None else Some Keyword))
      by true = tt
      by false = (record { fields = fields; some = some; each = each }, tt)
  by_fields i (Names names) fields some each = with_names i some each (filter (stays step) names) (each_filter IsName (stays step) names fields.1)

  whole_items : (items : List Item) → EachOf IsWholeItem items → EachOf IsWholeItem (kept_items step items)
  whole_items [] all = tt
  whole_items (i ∷ is) all = each_append IsWholeItem (kept_item step i) (kept_items step is) (by_fields i i.fields all.0.fields all.0.some all.0.each) (whole_items is all.1)

  some_left : (items : List Item) → is_empty items ≡ false → HasElement items
  some_left [] e = absurd cc
  some_left (i ∷ is) e = tt

  whole_alternatives : (alternatives : List (List Item)) → EachOf IsWholeAlternative alternatives → list_any is_empty (map (kept_items step) alternatives) ≡ false
      → EachOf IsWholeAlternative (map (kept_items step) alternatives)
  whole_alternatives [] all e = tt
  whole_alternatives (items ∷ more) all e =
      let parts = or_parts (is_empty (kept_items step items)) (list_any is_empty (map (kept_items step) more)) e in
      (record { some = some_left (kept_items step items) parts.0; each = whole_items items all.0.each }, whole_alternatives more all.1 parts.1)

  whole_detection : (d : Detection) → IsWholeDetection d → emptied (kept_detection step d) ≡ None → IsWholeDetection (kept_detection step d)
  whole_detection d whole none = record {
    some = some_map (kept_items step) d.alternatives whole.some;
    each = whole_alternatives d.alternatives whole.each
        (not_holds (list_any is_empty (map (kept_items step) d.alternatives)) (must_holds 97 d.place (not (list_any is_empty (map (kept_items step) d.alternatives))) none));
  }

  whole_detections : (ds : List Detection) → EachOf IsWholeDetection ds → emptied_refusal (kept_detections step ds) ≡ None → EachOf IsWholeDetection (kept_detections step ds)
  whole_detections [] all none = tt
  whole_detections (d ∷ ds) all none =
      let parts = first_holds (emptied (kept_detection step d)) (map emptied (kept_detections step ds)) none in
      (whole_detection d all.0 parts.0, whole_detections ds all.1 parts.1)

  whole_dropped : (rule : PlainRule) → IsWhole rule → emptied_refusal (kept_detections step rule.detections) ≡ None → IsWhole (dropped step rule)
  whole_dropped rule whole none = record {
    detections = whole_detections rule.detections whole.detections none;
    some = whole.some;
    conditions = subst (λ n. EachOf (IsWholeForm n) rule.conditions) (sym (same_length (kept_detection step) rule.detections)) whole.conditions;
  }

-- ---- a condition that is added

further : (k n m : ℕ) → n ≤ m → k < n → k < m
further k n m h less = omega (arith, h, less)

mutual
  form_more : (n m : ℕ) (f : PlainFormula) → n ≤ m → IsWholeForm n f → IsWholeForm m f
  form_more n m (FDetection k) h whole = further k n m h whole
  form_more n m (FNot f) h whole = form_more n m f h whole
  form_more n m (FAnd fs) h whole = some_more n m fs h whole
  form_more n m (FOr fs) h whole = some_more n m fs h whole

  some_more : (n m : ℕ) (fs : PlainFormulas) → n ≤ m → AreSomeForms n fs → AreSomeForms m fs
  some_more n m no_forms h whole = whole
  some_more n m (form f fs) h whole = (form_more n m f h whole.0, all_more n m fs h whole.1)

  all_more : (n m : ℕ) (fs : PlainFormulas) → n ≤ m → AreWholeForms n fs → AreWholeForms m fs
  all_more n m no_forms h whole = tt
  all_more n m (form f fs) h whole = (form_more n m f h whole.0, all_more n m fs h whole.1)

all_of : (n : ℕ) (fs : PlainFormulas) → AreSomeForms n fs → AreWholeForms n fs
all_of n no_forms h = absurd h
all_of n (form f fs) h = h

also_whole : (n : ℕ) (added c : PlainFormula) → IsWholeForm n added → IsWholeForm n c → IsWholeForm n (and_also added c)
also_whole n added (FDetection k) first second = (first, (second, tt))
also_whole n added (FNot f) first second = (first, (second, tt))
also_whole n added (FAnd fs) first second = (first, all_of n fs second)
also_whole n added (FOr fs) first second = (first, (second, tt))

below : (n : ℕ) → n < suc n
below n = omega arith

added_whole : (negated : Bool) (n : ℕ) → IsWholeForm (suc n) (added_form negated n)
added_whole true n = below n
added_whole false n = below n

up : (n : ℕ) → n ≤ suc n
up n = omega arith

whole_conditions : (negated : Bool) (n : ℕ) (cs : List PlainFormula) → EachOf (IsWholeForm n) cs → EachOf (IsWholeForm (suc n)) (and_each (added_form negated n) cs)
whole_conditions negated n cs all =
    each_map (IsWholeForm n) (IsWholeForm (suc n)) (and_also (added_form negated n))
    (λ c whole. also_whole (suc n) (added_form negated n) c (added_whole negated n) (form_more n (suc n) c (up n) whole)) cs all

whole_placed : (place : Place) (i : Item) → IsWholeItem i → IsWholeItem (placed place i)
whole_placed place i whole = record { fields = whole.fields; some = whole.some; each = whole.each }

whole_added : (place : Place) (items : List Item) → IsWholeAlternative items → IsWholeDetection (added_detection place items)
whole_added place items whole = record {
  some = tt;
  each = (
    record {
      some = some_map (placed place) items whole.some;
      each = each_map IsWholeItem IsWholeItem (placed place) (whole_placed place) items whole.each;
    },
    tt,
  );
}

whole_with : (items : List Item) (negated : Bool) (rule : PlainRule) → IsWholeAlternative items → IsWhole rule → IsWhole (with_condition items negated rule)
whole_with items negated rule added whole = record {
  detections = each_append IsWholeDetection rule.detections (added_detection rule.head.place items ∷ []) whole.detections (whole_added rule.head.place items added, tt);
  some = some_map (and_also (added_form negated (length rule.detections))) rule.conditions whole.some;
  conditions = subst (λ n. EachOf (IsWholeForm n) (and_each (added_form negated (length rule.detections)) rule.conditions))
      (sym (longer rule.detections (added_detection rule.head.place items))) (whole_conditions negated (length rule.detections) rule.conditions whole.conditions);
}

-- ---- each step

by_action : (step : Step) (action : Action) (rule : PlainRule) → AddsWhole action → IsWhole rule → cause step action rule ≡ None → IsWhole (acted step action rule)
by_action step Drop rule adds whole none = whole_dropped step rule whole none
by_action step (Add items negated) rule adds whole none = whole_with items negated rule adds whole
by_action step (Source source) rule adds whole none = record { detections = whole.detections; some = whole.some; conditions = whole.conditions }
by_action step (FailRule message) rule adds whole none = whole
by_action step (FailItem message) rule adds whole none = whole
by_action step (MapNames pairs) rule adds whole none = whole
by_action step (Prefix front) rule adds whole none = whole
by_action step (Suffix back) rule adds whole none = whole
by_action step (MapPrefixes pairs) rule adds whole none = whole
by_action step (MapTexts pairs) rule adds whole none = whole
by_action step (FillHoles choice) rule adds whole none = whole
by_action step (WildHoles choice) rule adds whole none = whole

pub stays_whole : (limits : Limits) (step : Step) (rule : PlainRule) → AddsWhole step.action → IsWhole rule → change_refusal limits step rule ≡ None → IsWhole (changed step rule)
stays_whole limits step rule adds whole none =
    by_action step step.action rule adds whole
    (first_holds (cause step step.action rule) (grown_refusal limits rule.head.place (changed step rule).detections ∷ []) none).0
