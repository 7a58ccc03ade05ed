-- A rule with other names is whole.
use Rattle.std.proofs.Common.{ℕ, zero, suc, ◌≡◌, Bool, true, false, cond, ◌&&◌, length, List, [], ◌∷◌, ◌++◌, map, refl, sym, subst, ap}
use Rattle.std.specs.Prelude.{None, if◌then◌else◌, drop, nat_le}
use Rattle.std.specs.List.{list_all, flat_map}
use Rattle.std.specs.Str.{all_scalars, bytes_eq}
use Rattle.std.proofs.lemmas.Bool.{and_parts, and_from}
use Rattle.std.proofs.Math.Utf8.{scalar}
use Rattle.event_schema.specs.Lists.{EachOf, HasElement}
use Rattle.event_schema.specs.Names.{is_legal, IsName}
use Rattle.sig_base.specs.declared.limits.Limits.{Limits}
use Rattle.sig_base.proofs.Checks.{must_holds}
use Rattle.rule_detections.specs.PlainTests.{IsPlainTest, ArePlainTests}
use Rattle.rule_detections.specs.declared.test.Test.{Test}
use Rattle.rule_detections.specs.declared.test.Test.TheVariants as tests
use Rattle.rule_detections.specs.Whole.{IsWholeValue, AreWholeFields, IsWholeItem, IsWholeAlternative, IsWholeDetection}
use Rattle.rule_detections.specs.declared.detection.Detection.{Detection}
use Rattle.rule_detections.specs.declared.item.Fields.{Fields}
use Rattle.rule_detections.specs.declared.item.Fields.TheVariants.{Keyword, Names}
use Rattle.rule_detections.specs.declared.item.Item.{Item}
use Rattle.rule_model.specs.Plain.{PlainRule}
use Rattle.rule_model.specs.Whole.{IsWholeForm, IsWhole}
use Rattle.pipeline_model.specs.Concerned.{is_among, concerns}
use Rattle.pipeline_model.specs.declared.step.Action.{Action}
use Rattle.pipeline_model.specs.declared.step.Action.TheVariants.{MapNames, Prefix, Suffix, MapPrefixes, Drop, Add, Source, MapTexts, FillHoles, WildHoles, FailRule, FailItem}
use Rattle.pipeline_model.specs.declared.step.Pair.{Pair}
use Rattle.pipeline_model.specs.declared.step.Step.{Step}
use Rattle.pipeline_rename.specs.Kept.{IsScalarText, HasTargets, MakesNames}
use Rattle.pipeline_rename.specs.Names.{begins, each_before, mapped, prefixed, targets, names_for, with_name, with_names}
use Rattle.pipeline_rename.specs.Renamed.{renamed_names, renamed_test, renamed_value, renamed_values, renamed_fields, renamed_item, renamed_items, renamed_detection, renamed_detections, renamed}
use Rattle.pipeline_limits.specs.Sizes.{names_in, compares_legally, has_legal_names, has_short_patterns, in_every, every_item, has_room, grown_refusal, of_items, name_count, test_count}

-- ---- names behind others

some_append : (xs : List (List ℕ)) (x : List ℕ) → HasElement (xs ++ x ∷ [])
some_append [] x = tt
some_append (y ∷ ys) x = tt

some_name : (b : Bool) (names : List (List ℕ)) (name : List ℕ) → is_among names name ≡ b → HasElement (cond b names (names ++ name ∷ []))
some_name true [] name e = absurd cc
some_name true (n ∷ ns) name e = tt
some_name false names name e = some_append names name

some_stays : (names more : List (List ℕ)) → HasElement names → HasElement (with_names names more)
some_stays names [] h = h
some_stays names (n ∷ ns) h = some_stays (with_name names n) ns (some_name (is_among names n) names n refl)

some_made : (more : List (List ℕ)) → HasElement more → HasElement (with_names [] more)
some_made [] h = absurd h
some_made (n ∷ ns) h = some_stays (with_name [] n) ns (some_name (is_among [] n) [] n refl)

each_append : {A : Type 0} (P : A → Type 0) (xs ys : List A) → EachOf P xs → EachOf P ys → EachOf P (xs ++ ys)
each_append P [] ys a b = b
each_append P (x ∷ xs) ys a b = (a.0, each_append P xs ys a.1 b)

each_name : (P : List ℕ → Type 0) (b : Bool) (names : List (List ℕ)) (name : List ℕ) → EachOf P names → P name → EachOf P (cond b names (names ++ name ∷ []))
each_name P true names name all one = all
each_name P false names name all one = each_append P names (name ∷ []) all (one, tt)

each_with : (P : List ℕ → Type 0) (names more : List (List ℕ)) → EachOf P names → EachOf P more → EachOf P (with_names names more)
each_with P names [] all more = all
each_with P names (n ∷ ns) all more = each_with P (with_name names n) ns (each_name P (is_among names n) names n all more.0) more.1

-- ---- what a step makes of a name

scalars_append : (xs ys : List ℕ) → all_scalars xs ≡ true → all_scalars ys ≡ true → all_scalars (xs ++ ys) ≡ true
scalars_append [] ys a b = b
scalars_append (x ∷ xs) ys a b =
    let both = and_parts (scalar x) (all_scalars xs) a in
    and_from (scalar x) (all_scalars (xs ++ ys)) both.0 (scalars_append xs ys both.1 b)

scalars_drop : (n : ℕ) (xs : List ℕ) → all_scalars xs ≡ true → all_scalars (drop n xs) ≡ true
scalars_drop zero xs a = a
scalars_drop (suc n) [] a = refl
scalars_drop (suc n) (x ∷ xs) a = scalars_drop n xs (and_parts (scalar x) (all_scalars xs) a).1

-- at least one name, of scalar values
record Makes (names : List (List ℕ)) : Type 0 where
  some : HasElement names
  scalars : EachOf IsScalarText names

makes_one : (name : List ℕ) → all_scalars name ≡ true → Makes (name ∷ [])
makes_one name h = record { some = tt; scalars = (h, tt) }

each_before_scalars : (prefixes : List (List ℕ)) (back : List ℕ) → EachOf IsScalarText prefixes → all_scalars back ≡ true → EachOf IsScalarText (each_before prefixes back)
each_before_scalars [] back all h = tt
each_before_scalars (f ∷ fs) back all h = (scalars_append f back all.0 h, each_before_scalars fs back all.1 h)

some_before : (prefixes : List (List ℕ)) (back : List ℕ) → HasElement prefixes → HasElement (each_before prefixes back)
some_before [] back h = absurd h
some_before (f ∷ fs) back h = tt

makes_mapped : (pairs : List Pair) (name : List ℕ) → EachOf HasTargets pairs → all_scalars name ≡ true → Makes (mapped pairs name)
makes_mapped [] name all h = makes_one name h
makes_mapped (pair ∷ pairs) name all h = by (bytes_eq pair.from name) (makes_mapped pairs name all.1 h)
  where
    by : (b : Bool) → Makes (mapped pairs name) → Makes (if b then pair.to else mapped pairs name)
    by true rest = record { some = all.0.some; scalars = all.0.scalars }
    by false rest = rest

makes_prefixed : (pairs : List Pair) (name : List ℕ) → EachOf HasTargets pairs → all_scalars name ≡ true → Makes (prefixed pairs name)
makes_prefixed [] name all h = makes_one name h
makes_prefixed (pair ∷ pairs) name all h = by (begins pair.from name) (makes_prefixed pairs name all.1 h)
  where
    by : (b : Bool) → Makes (prefixed pairs name) → Makes (if b then each_before pair.to (drop (length pair.from) name) else prefixed pairs name)
    by true rest = record {
      some = some_before pair.to (drop (length pair.from) name) all.0.some;
      scalars = each_before_scalars pair.to (drop (length pair.from) name) all.0.scalars (scalars_drop (length pair.from) name h);
    }
    by false rest = rest

makes_targets : (action : Action) (name : List ℕ) → MakesNames action → all_scalars name ≡ true → Makes (targets action name)
makes_targets (MapNames pairs) name own h = makes_mapped pairs name own h
makes_targets (Prefix front) name own h = makes_one (front ++ name) (scalars_append front name own h)
makes_targets (Suffix back) name own h = makes_one (name ++ back) (scalars_append name back h own)
makes_targets (MapPrefixes pairs) name own h = makes_prefixed pairs name own h
makes_targets Drop name own h = makes_one name h
makes_targets (Add items negated) name own h = makes_one name h
makes_targets (Source source) name own h = makes_one name h
makes_targets (MapTexts pairs) name own h = makes_one name h
makes_targets (FillHoles choice) name own h = makes_one name h
makes_targets (WildHoles choice) name own h = makes_one name h
makes_targets (FailRule message) name own h = makes_one name h
makes_targets (FailItem message) name own h = makes_one name h

makes_names : (step : Step) (name : List ℕ) → MakesNames step.action → all_scalars name ≡ true → Makes (names_for step name)
makes_names step name own h = by (concerns step name)
  where
    by : (b : Bool) → Makes (if b then targets step.action name else name ∷ [])
    by true = makes_targets step.action name own h
    by false = makes_one name h

-- ---- rules

module _ (made : List ℕ → List (List ℕ)) (makes : (name : List ℕ) → all_scalars name ≡ true → Makes (made name)) where
  some_flat : (names : List (List ℕ)) → HasElement names → EachOf IsName names → HasElement (flat_map made names)
  some_flat [] h all = absurd h
  some_flat (n ∷ ns) h all = by (made n) (makes n all.0.scalars).some
    where
      by : (ms : List (List ℕ)) → HasElement ms → HasElement (ms ++ flat_map made ns)
      by [] k = absurd k
      by (m ∷ ms) k = tt

  each_flat : (names : List (List ℕ)) → EachOf IsName names → EachOf IsScalarText (flat_map made names)
  each_flat [] all = tt
  each_flat (n ∷ ns) all = each_append IsScalarText (made n) (flat_map made ns) (makes n all.0.scalars).scalars (each_flat ns all.1)

  are_names : (names : List (List ℕ)) → EachOf IsScalarText names → list_all is_legal names ≡ true → EachOf IsName names
  are_names [] scalars legal = tt
  are_names (n ∷ ns) scalars legal =
      let both = and_parts (is_legal n) (list_all is_legal ns) legal in
      (record { legal = both.0; scalars = scalars.0 }, are_names ns scalars.1 both.1)

  -- tests that compare with each of these names
  compare_names : (names : List (List ℕ)) → EachOf IsScalarText names → list_all compares_legally (map tests.SameAs names) ≡ true → ArePlainTests (map tests.SameAs names)
  compare_names [] scalars legal = tt
  compare_names (n ∷ ns) scalars legal =
      let both = and_parts (is_legal n) (list_all compares_legally (map tests.SameAs ns)) legal in
      (record { legal = both.0; scalars = scalars.0 }, compare_names ns scalars.1 both.1)

  some_tests : (names : List (List ℕ)) → HasElement names → HasElement (map tests.SameAs names)
  some_tests [] h = absurd h
  some_tests (n ∷ ns) h = tt

  plain_test : (test : Test) → IsPlainTest test → list_all compares_legally (renamed_test made test) ≡ true → ArePlainTests (renamed_test made test)
  plain_test tests.Absent plain legal = (plain, tt)
  plain_test (tests.Exists there) plain legal = (plain, tt)
  plain_test (tests.Fits pattern cased) plain legal = (plain, tt)
  plain_test (tests.Equals n) plain legal = (plain, tt)
  plain_test (tests.Inside n) plain legal = (plain, tt)
  plain_test (tests.Compare op n) plain legal = (plain, tt)
  plain_test (tests.SameAs name) plain legal = compare_names (made name) (makes name plain.scalars).scalars legal
  plain_test (tests.Finds text flags) plain legal = (plain, tt)

  some_test : (test : Test) → IsPlainTest test → HasElement (renamed_test made test)
  some_test tests.Absent plain = tt
  some_test (tests.Exists there) plain = tt
  some_test (tests.Fits pattern cased) plain = tt
  some_test (tests.Equals n) plain = tt
  some_test (tests.Inside n) plain = tt
  some_test (tests.Compare op n) plain = tt
  some_test (tests.SameAs name) plain = some_tests (made name) (makes name plain.scalars).some
  some_test (tests.Finds text flags) plain = tt

  legal_parts : (xs ys : List Test) → list_all compares_legally (xs ++ ys) ≡ true → (list_all compares_legally xs ≡ true) × (list_all compares_legally ys ≡ true)
  legal_parts [] ys legal = (refl, legal)
  legal_parts (x ∷ xs) ys legal =
      let both = and_parts (compares_legally x) (list_all compares_legally (xs ++ ys)) legal in
      let rest = legal_parts xs ys both.1 in
      (and_from (compares_legally x) (list_all compares_legally xs) both.0 rest.0, rest.1)

  plain_tests : (value : List Test) → ArePlainTests value → list_all compares_legally (renamed_value made value) ≡ true → ArePlainTests (renamed_value made value)
  plain_tests [] plain legal = tt
  plain_tests (test ∷ value) plain legal =
      let parts = legal_parts (renamed_test made test) (renamed_value made value) legal in
      each_append IsPlainTest (renamed_test made test) (renamed_value made value) (plain_test test plain.0 parts.0) (plain_tests value plain.1 parts.1)

  some_value : (value : List Test) → HasElement value → ArePlainTests value → HasElement (renamed_value made value)
  some_value [] h plain = absurd h
  some_value (test ∷ value) h plain = by (renamed_test made test) (some_test test plain.0)
    where
      by : (ts : List Test) → HasElement ts → HasElement (ts ++ renamed_value made value)
      by [] k = absurd k
      by (t ∷ ts) k = tt

  whole_value : (value : List Test) → IsWholeValue value → list_all compares_legally (renamed_value made value) ≡ true → IsWholeValue (renamed_value made value)
  whole_value value whole legal = record { some = some_value value whole.some whole.each; each = plain_tests value whole.each legal }

  module _ {A : Type 0} (P : A → Type 0) (f : A → A) (test : A → Bool) (step : (x : A) → P x → test (f x) ≡ true → P (f x)) where
    each_step : (xs : List A) → EachOf P xs → list_all test (map f xs) ≡ true → EachOf P (map f xs)
    each_step [] all e = tt
    each_step (x ∷ xs) all e =
        let both = and_parts (test (f x)) (list_all test (map f xs)) e in
        (step x all.0 both.0, each_step xs all.1 both.1)

  some_map : {A B : Type 0} (f : A → B) (xs : List A) → HasElement xs → HasElement (map f xs)
  some_map f [] h = absurd h
  some_map f (x ∷ xs) h = tt

  -- an item, by its fields
  whole_as : (f : Fields) (i : Item) → i.fields ≡ f → AreWholeFields f i.tests → HasElement i.tests → EachOf IsWholeValue i.tests
      → list_all is_legal (names_in (renamed_fields made f)) ≡ true → list_all (list_all compares_legally) (renamed_values made f i.tests) ≡ true
      → (AreWholeFields (renamed_fields made f) (renamed_values made f i.tests)) × (HasElement (renamed_values made f i.tests)) × (EachOf IsWholeValue (renamed_values made f i.tests))
  whole_as Keyword i is fields some each legal compared = (fields, some, each)
  whole_as (Names names) i is fields some each legal compared = (
    (
      some_made (flat_map made names) (some_flat names fields.0 fields.1),
      are_names (renamed_names made names) (each_with IsScalarText [] (flat_map made names) tt (each_flat names fields.1)) legal,
    ),
    some_map (renamed_value made) i.tests some,
    each_step IsWholeValue (renamed_value made) (list_all compares_legally) whole_value i.tests each compared,
  )

  whole_item : (i : Item) → IsWholeItem i → has_legal_names (renamed_item made i) ≡ true → IsWholeItem (renamed_item made i)
  whole_item i whole legal =
      let both = and_parts (list_all is_legal (names_in (renamed_fields made i.fields))) (list_all (list_all compares_legally) (renamed_values made i.fields i.tests)) legal in
      let parts = whole_as i.fields i refl whole.fields whole.some whole.each both.0 both.1 in
      record { fields = parts.0; some = parts.1; each = parts.2 }

  whole_items : (items : List Item) → IsWholeAlternative items → list_all has_legal_names (renamed_items made items) ≡ true → IsWholeAlternative (renamed_items made items)
  whole_items items whole legal = record {
    some = some_map (renamed_item made) items whole.some;
    each = each_step IsWholeItem (renamed_item made) has_legal_names whole_item items whole.each legal;
  }

  whole_detection : (d : Detection) → IsWholeDetection d → in_every has_legal_names (renamed_detection made d) ≡ true → IsWholeDetection (renamed_detection made d)
  whole_detection d whole legal = record {
    some = some_map (renamed_items made) d.alternatives whole.some;
    each = each_step IsWholeAlternative (renamed_items made) (list_all has_legal_names) whole_items d.alternatives whole.each legal;
  }

  same_length : (ds : List Detection) → length (renamed_detections made ds) ≡ length ds
  same_length [] = refl
  same_length (d ∷ ds) = ap suc (same_length ds)

  whole_renamed : (rule : PlainRule) → IsWhole rule → every_item has_legal_names (renamed_detections made rule.detections) ≡ true → IsWhole (renamed made rule)
  whole_renamed rule whole legal = record {
    detections = each_step IsWholeDetection (renamed_detection made) (in_every has_legal_names) whole_detection rule.detections whole.detections legal;
    some = whole.some;
    conditions = subst (λ n. EachOf (IsWholeForm n) rule.conditions) (sym (same_length rule.detections)) whole.conditions;
  }

-- where it isn't refused, its names are legal
legal_names : (limits : Limits) (rule : PlainRule) → grown_refusal limits rule.head.place rule.detections ≡ None → every_item has_legal_names rule.detections ≡ true
legal_names limits rule none =
    let room : has_room limits rule.detections ≡ true = must_holds 99 rule.head.place (has_room limits rule.detections) none in
    let sizes = nat_le (of_items name_count rule.detections) limits.grown && nat_le (of_items test_count rule.detections) limits.grown in
    let names = and_parts (sizes && every_item has_legal_names rule.detections) (every_item (has_short_patterns limits) rule.detections) room in
    (and_parts sizes (every_item has_legal_names rule.detections) names.0).1

pub stays_whole : (limits : Limits) (step : Step) (rule : PlainRule) → MakesNames step.action → IsWhole rule
    → grown_refusal limits rule.head.place (renamed (names_for step) rule).detections ≡ None → IsWhole (renamed (names_for step) rule)
stays_whole limits step rule own whole none =
    whole_renamed (names_for step) (λ name h. makes_names step name own h) rule whole (legal_names limits (renamed (names_for step) rule) none)
