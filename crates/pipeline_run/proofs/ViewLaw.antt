-- A rule with other names means what the first one means with each name read as one of them.
use Rattle.std.proofs.Common.{ℕ, zero, suc, ◌≡◌, ◌↔◌, Bool, true, false, cond, ◌⊎◌, inl, inr, List, [], ◌∷◌, ◌++◌, map, refl, sym, subst}
use Rattle.std.specs.Prelude.{if◌then◌else◌, ◌||◌}
use Rattle.std.specs.List.{flat_map}
use Rattle.std.specs.Str.{bytes_eq}
use Rattle.std.proofs.lemmas.Slice.Eq.{bytes_eq-Decides}
use Rattle.event_schema.specs.Lists.{EachOf, SomeOf}
use Rattle.event_schema.specs.declared.schema.Field.{Field}
use Rattle.event_schema.specs.declared.value.Value.{Value}
use Rattle.modifier_words.specs.declared.modifier.Joined.{Joined}
use Rattle.modifier_words.specs.declared.modifier.Joined.TheVariants.{All, Any}
use Rattle.rule_head.specs.declared.source.LogSource.{LogSource}
use Rattle.rule_detections.specs.declared.detection.Detection.{Detection}
use Rattle.rule_detections.specs.declared.item.Fields.{Fields}
use Rattle.rule_detections.specs.declared.item.Fields.TheVariants.{Keyword, Names}
use Rattle.rule_detections.specs.declared.item.Item.{Item}
use Rattle.rule_model.specs.Matching.{JoinedHolds, named, FieldSatisfies, FieldsHold, ItemHolds, NumberHolds, FormHolds, AllFormsHold, SomeFormHolds, Matches}
use Rattle.rule_model.proofs.Iffs.{iff_same, iff_then, iff_back, iff_not, iff_both, iff_either, some_same, each_same}
use Rattle.rule_model.specs.Plain.{PlainRule}
use Rattle.sig_conditions.specs.Formulas.{PlainFormula, FDetection, FNot, FAnd, FOr, PlainFormulas, no_forms, form}
use Rattle.rule_detections.specs.Holds.{Holds}
use Rattle.rule_detections.specs.declared.test.Test.{Test}
use Rattle.rule_detections.specs.declared.test.Test.TheVariants as tests
use Rattle.pipeline_model.specs.Concerned.{is_among, acts_on}
use Rattle.pipeline_model.specs.declared.step.Step.{Step}
use Rattle.pipeline_rename.specs.Names.{with_name, with_names, names_for}
use Rattle.pipeline_rename.specs.Renamed.{renamed_test, renamed_value, renamed_values, renamed_fields, renamed_item, renamed}
use Rattle.pipeline_run.specs.ReadAs.{DetectionBy, NumberBy, FormBy, AllFormsBy, SomeFormsBy, MatchesBy, HoldsAs, SatisfiesAs, FieldsHoldAs, ItemHoldsAs, MatchesAs, then_as, itself, step_renamed, steps_renamed, steps_view}

-- ---- lists

some_append : {A : Type 0} (P : A → Type 0) (xs ys : List A) → SomeOf P (xs ++ ys) ↔ (SomeOf P xs ⊎ SomeOf P ys)
some_append P [] ys = ((λ h. inr h), (λ h. elim h [ inl e ↦ absurd e | inr e ↦ e ]))
some_append P (x ∷ xs) ys =
    let rest = some_append P xs ys in (
      (λ h. elim h [ inl e ↦ inl (inl e) | inr e ↦ elim (rest.0 e) [ inl f ↦ inl (inr f) | inr f ↦ inr f ] ]),
      (λ h. elim h [ inl e ↦ elim e [ inl f ↦ inl f | inr f ↦ inr (rest.1 (inl f)) ] | inr e ↦ inr (rest.1 (inr e)) ]),
    )

some_map : {A B : Type 0} (f : A → B) (P : B → Type 0) (Q : A → Type 0) → ((x : A) → P (f x) ↔ Q x) → (xs : List A) → SomeOf P (map f xs) ↔ SomeOf Q xs
some_map f P Q same [] = iff_same
some_map f P Q same (x ∷ xs) = iff_either (same x) (some_map f P Q same xs)

each_map : {A B : Type 0} (f : A → B) (P : B → Type 0) (Q : A → Type 0) → ((x : A) → P (f x) ↔ Q x) → (xs : List A) → EachOf P (map f xs) ↔ EachOf Q xs
each_map f P Q same [] = iff_same
each_map f P Q same (x ∷ xs) = iff_both (same x) (each_map f P Q same xs)

some_flat : {A B : Type 0} (f : A → List B) (P : B → Type 0) (xs : List A) → SomeOf P (flat_map f xs) ↔ SomeOf (λ x. SomeOf P (f x)) xs
some_flat f P [] = iff_same
some_flat f P (x ∷ xs) = iff_then (some_append P (f x) (flat_map f xs)) (iff_either iff_same (some_flat f P xs))

-- ---- names that are there once

module _ (P : List ℕ → Type 0) where
  there : (name : List ℕ) (names : List (List ℕ)) → is_among names name ≡ true → P name → SomeOf P names
  there name [] e p = absurd (let f : false ≡ true = e in cc)
  there name (n ∷ ns) e p = by (bytes_eq n name) ((bytes_eq-Decides n name).0) e (there name ns)
    where
      by : (b : Bool) → (b ≡ true → n ≡ name) → (b || is_among ns name) ≡ true → (is_among ns name ≡ true → P name → SomeOf P ns) → P n ⊎ SomeOf P ns
      by true is e rest = inl (subst P (sym (is refl)) p)
      by false is e rest = inr (rest e p)

  one_name : (b : Bool) (names : List (List ℕ)) (name : List ℕ) → is_among names name ≡ b
      → SomeOf P (cond b names (names ++ name ∷ [])) ↔ (SomeOf P names ⊎ P name)
  one_name true names name e = ((λ h. inl h), (λ h. elim h [ inl a ↦ a | inr b ↦ there name names e b ]))
  one_name false names name e =
      let parts = some_append P names (name ∷ []) in (
        (λ h. elim (parts.0 h) [ inl a ↦ inl a | inr b ↦ elim b [ inl c ↦ inr c | inr d ↦ absurd d ] ]),
        (λ h. elim h [ inl a ↦ parts.1 (inl a) | inr b ↦ parts.1 (inr (inl b)) ]),
      )

  some_with : (names more : List (List ℕ)) → SomeOf P (with_names names more) ↔ (SomeOf P names ⊎ SomeOf P more)
  some_with names [] = ((λ h. inl h), (λ h. elim h [ inl a ↦ a | inr e ↦ absurd e ]))
  some_with names (n ∷ ns) =
      let rest = some_with (with_name names n) ns in
      let first = one_name (is_among names n) names n refl in (
        (λ h. elim (rest.0 h) [ inl a ↦ elim (first.0 a) [ inl b ↦ inl b | inr c ↦ inr (inl c) ] | inr d ↦ inr (inr d) ]),
        (λ h. elim h [ inl a ↦ rest.1 (inl (first.1 (inl a))) | inr b ↦ elim b [ inl c ↦ rest.1 (inl (first.1 (inr c))) | inr d ↦ rest.1 (inr d) ] ]),
      )

  some_once : (names : List (List ℕ)) → SomeOf P (with_names [] names) ↔ SomeOf P names
  some_once names =
      let all = some_with [] names in
      ((λ h. elim (all.0 h) [ inl e ↦ absurd e | inr a ↦ a ]), (λ h. all.1 (inr h)))

-- ---- values of an item

joined_map : (joined : Joined) (f : List Test → List Test) (P Q : List Test → Type 0) → ((x : List Test) → P (f x) ↔ Q x)
    → (values : List (List Test)) → JoinedHolds joined P (map f values) ↔ JoinedHolds joined Q values
joined_map All f P Q same values = each_map f P Q same values
joined_map Any f P Q same values = some_map f P Q same values

joined_same : (joined : Joined) (P Q : List Test → Type 0) → ((x : List Test) → P x ↔ Q x) → (values : List (List Test)) → JoinedHolds joined P values ↔ JoinedHolds joined Q values
joined_same All P Q same values = each_same P Q same values
joined_same Any P Q same values = some_same P Q same values

one_of : {A : Type 0} (P : A → Type 0) (x : A) → SomeOf P (x ∷ []) ↔ P x
one_of P x = ((λ h. elim h [ inl a ↦ a | inr e ↦ absurd e ]), (λ h. inl h))

-- ---- rules, by what their items hold

abbrev changed_detection : (Item → Item) → Detection → Detection
changed_detection f d = record { name = d.name; alternatives = map (map f) d.alternatives; place = d.place }

module _ (A B : Item → Type 0) (f : Item → Item) (same : (i : Item) → A (f i) ↔ B i) where
  detection_by : (d : Detection) → DetectionBy A (changed_detection f d) ↔ DetectionBy B d
  detection_by d = some_map (map f) (λ items. EachOf A items) (λ items. EachOf B items) (λ items. each_map f A B same items) d.alternatives

  number_by : (ds : List Detection) (n : ℕ) → NumberBy A (map (changed_detection f) ds) n ↔ NumberBy B ds n
  number_by [] n = iff_same
  number_by (d ∷ ds) zero = detection_by d
  number_by (d ∷ ds) (suc n) = number_by ds n

  mutual
    form_by : (ds : List Detection) (x : PlainFormula) → FormBy A (map (changed_detection f) ds) x ↔ FormBy B ds x
    form_by ds (FDetection n) = number_by ds n
    form_by ds (FNot x) = iff_not (form_by ds x)
    form_by ds (FAnd xs) = all_by ds xs
    form_by ds (FOr xs) = some_by ds xs

    all_by : (ds : List Detection) (xs : PlainFormulas) → AllFormsBy A (map (changed_detection f) ds) xs ↔ AllFormsBy B ds xs
    all_by ds no_forms = iff_same
    all_by ds (form x xs) = iff_both (form_by ds x) (all_by ds xs)

    some_by : (ds : List Detection) (xs : PlainFormulas) → SomeFormsBy A (map (changed_detection f) ds) xs ↔ SomeFormsBy B ds xs
    some_by ds no_forms = iff_same
    some_by ds (form x xs) = iff_either (form_by ds x) (some_by ds xs)

  pub matches_changed : (rule : PlainRule) → SomeOf (FormBy A (map (changed_detection f) rule.detections)) rule.conditions ↔ MatchesBy B rule
  matches_changed rule = some_same (FormBy A (map (changed_detection f) rule.detections)) (FormBy B rule.detections) (form_by rule.detections) rule.conditions

-- ---- the law, where a name is first made others and then read as others

module _ (fields : List Field) (row : List (List Value)) where
  module _ (made read_as : List ℕ → List (List ℕ)) where
    -- a test that compares with no field becomes itself
    plain_test : (values : List Value) (test : Test) → SomeOf (HoldsAs read_as fields row values) (test ∷ []) ↔ HoldsAs read_as fields row values test
    plain_test values test = one_of (HoldsAs read_as fields row values) test

    test_means : (values : List Value) (test : Test) → SomeOf (HoldsAs read_as fields row values) (renamed_test made test) ↔ HoldsAs (then_as made read_as) fields row values test
    test_means values tests.Absent = plain_test values tests.Absent
    test_means values (tests.Exists there) = plain_test values (tests.Exists there)
    test_means values (tests.Fits pattern cased) = plain_test values (tests.Fits pattern cased)
    test_means values (tests.Equals n) = plain_test values (tests.Equals n)
    test_means values (tests.Inside n) = plain_test values (tests.Inside n)
    test_means values (tests.Compare op n) = plain_test values (tests.Compare op n)
    test_means values (tests.Finds text flags) = plain_test values (tests.Finds text flags)
    test_means values (tests.SameAs name) =
        let P : List ℕ → Type 0 = λ other. Holds (named fields row) (tests.SameAs other) values in
        let Q : List ℕ → Type 0 = λ other. SomeOf P (read_as other) in
        iff_then (some_map tests.SameAs (HoldsAs read_as fields row values) Q (λ other. iff_same) (made name)) (iff_back (some_flat read_as P (made name)))

    value_means : (name : List ℕ) (value : List Test) → SatisfiesAs read_as fields row name (renamed_value made value) ↔ SatisfiesAs (then_as made read_as) fields row name value
    value_means name value =
        let values : List Value = named fields row name in
        iff_then (some_flat (renamed_test made) (HoldsAs read_as fields row values) value)
        (some_same (λ test. SomeOf (HoldsAs read_as fields row values) (renamed_test made test)) (HoldsAs (then_as made read_as) fields row values) (test_means values) value)

    fields_mean : (joined : Joined) (values : List (List Test)) (f : Fields)
        → FieldsHoldAs read_as fields row joined (renamed_values made f values) (renamed_fields made f) ↔ FieldsHoldAs (then_as made read_as) fields row joined values f
    fields_mean joined values Keyword = iff_same
    fields_mean joined values (Names names) =
        let P : List ℕ → Type 0 = λ other. JoinedHolds joined (SatisfiesAs read_as fields row other) (map (renamed_value made) values) in
        let R : List ℕ → Type 0 = λ other. JoinedHolds joined (SatisfiesAs (then_as made read_as) fields row other) values in
        let Q : List ℕ → Type 0 = λ name. SomeOf P (read_as name) in
        let same : (other : List ℕ) → P other ↔ R other = λ other.
        joined_map joined (renamed_value made) (SatisfiesAs read_as fields row other) (SatisfiesAs (then_as made read_as) fields row other) (value_means other) values in
        iff_then (some_once Q (flat_map made names))
        (iff_then (some_flat made Q names)
        (some_same (λ name. SomeOf Q (made name)) (λ name. SomeOf R (then_as made read_as name))
        (λ name. iff_then (iff_back (some_flat read_as P (made name))) (some_same P R same (then_as made read_as name))) names))

    renamed_means : (rule : PlainRule) → MatchesAs read_as fields row (renamed made rule) ↔ MatchesAs (then_as made read_as) fields row rule
    renamed_means rule = matches_changed (ItemHoldsAs read_as fields row) (ItemHoldsAs (then_as made read_as) fields row) (renamed_item made)
        (λ i. fields_mean i.joined i.tests i.fields) rule

  -- ---- where nothing is read as another name

  test_plain : (values : List Value) (test : Test) → HoldsAs itself fields row values test ↔ Holds (named fields row) test values
  test_plain values tests.Absent = iff_same
  test_plain values (tests.Exists there) = iff_same
  test_plain values (tests.Fits pattern cased) = iff_same
  test_plain values (tests.Equals n) = iff_same
  test_plain values (tests.Inside n) = iff_same
  test_plain values (tests.Compare op n) = iff_same
  test_plain values (tests.Finds text flags) = iff_same
  test_plain values (tests.SameAs name) = one_of (λ (other : List ℕ). Holds (named fields row) (tests.SameAs other) values) name

  value_plain : (name : List ℕ) (value : List Test) → SatisfiesAs itself fields row name value ↔ FieldSatisfies fields row name value
  value_plain name value =
      some_same (HoldsAs itself fields row (named fields row name)) (λ test. Holds (named fields row) test (named fields row name)) (test_plain (named fields row name)) value

  fields_plain : (joined : Joined) (values : List (List Test)) (f : Fields) → FieldsHoldAs itself fields row joined values f ↔ FieldsHold fields row joined values f
  fields_plain joined values Keyword = iff_same
  fields_plain joined values (Names names) =
      let P : List ℕ → Type 0 = λ name. JoinedHolds joined (SatisfiesAs itself fields row name) values in
      some_same (λ name. SomeOf P (itself name)) (λ name. JoinedHolds joined (FieldSatisfies fields row name) values)
      (λ name. iff_then (one_of P name) (joined_same joined (SatisfiesAs itself fields row name) (FieldSatisfies fields row name) (value_plain name) values)) names

  item_plain : (i : Item) → ItemHoldsAs itself fields row i ↔ ItemHolds fields row i
  item_plain i = fields_plain i.joined i.tests i.fields

  each_plain : (is : List Item) → EachOf (ItemHoldsAs itself fields row) is ↔ EachOf (ItemHolds fields row) is
  each_plain [] = iff_same
  each_plain (i ∷ is) = iff_both (item_plain i) (each_plain is)

  number_plain : (ds : List Detection) (n : ℕ) → NumberBy (ItemHoldsAs itself fields row) ds n ↔ NumberHolds fields row ds n
  number_plain [] n = iff_same
  number_plain (d ∷ ds) zero = some_same (λ items. EachOf (ItemHoldsAs itself fields row) items) (λ items. EachOf (ItemHolds fields row) items) each_plain d.alternatives
  number_plain (d ∷ ds) (suc n) = number_plain ds n

  mutual
    form_plain : (ds : List Detection) (x : PlainFormula) → FormBy (ItemHoldsAs itself fields row) ds x ↔ FormHolds fields row ds x
    form_plain ds (FDetection n) = number_plain ds n
    form_plain ds (FNot x) = iff_not (form_plain ds x)
    form_plain ds (FAnd xs) = all_plain ds xs
    form_plain ds (FOr xs) = some_plain ds xs

    all_plain : (ds : List Detection) (xs : PlainFormulas) → AllFormsBy (ItemHoldsAs itself fields row) ds xs ↔ AllFormsHold fields row ds xs
    all_plain ds no_forms = iff_same
    all_plain ds (form x xs) = iff_both (form_plain ds x) (all_plain ds xs)

    some_plain : (ds : List Detection) (xs : PlainFormulas) → SomeFormsBy (ItemHoldsAs itself fields row) ds xs ↔ SomeFormHolds fields row ds xs
    some_plain ds no_forms = iff_same
    some_plain ds (form x xs) = iff_either (form_plain ds x) (some_plain ds xs)

  matches_plain : (rule : PlainRule) → MatchesAs itself fields row rule ↔ Matches fields row rule
  matches_plain rule = some_same (FormBy (ItemHoldsAs itself fields row) rule.detections) (FormHolds fields row rule.detections) (form_plain rule.detections) rule.conditions

  -- ---- steps in a row

  step_reads : (step : Step) (read_as : List ℕ → List (List ℕ)) (rule : PlainRule)
      → MatchesAs read_as fields row (step_renamed step rule) ↔ MatchesAs (if acts_on step rule.source then then_as (names_for step) read_as else read_as) fields row rule
  step_reads step read_as rule = by (acts_on step rule.source)
    where
      by : (b : Bool) → MatchesAs read_as fields row (if b then renamed (names_for step) rule else rule) ↔ MatchesAs (if b then then_as (names_for step) read_as else read_as) fields row rule
      by true = renamed_means (names_for step) read_as rule
      by false = iff_same

  -- the log source stays
  same_source : (step : Step) (rule : PlainRule) → (step_renamed step rule).source ≡ rule.source
  same_source step rule = by (acts_on step rule.source)
    where
      by : (b : Bool) → (if b then renamed (names_for step) rule else rule).source ≡ rule.source
      by true = refl
      by false = refl

  steps_read : (steps : List Step) (read_as : List ℕ → List (List ℕ)) (rule : PlainRule)
      → MatchesAs read_as fields row (steps_renamed steps rule) ↔ MatchesAs (steps_view rule.source steps read_as) fields row rule
  steps_read [] read_as rule = iff_same
  steps_read (step ∷ steps) read_as rule =
      let rest : MatchesAs read_as fields row (steps_renamed steps (step_renamed step rule)) ↔ MatchesAs (steps_view rule.source steps read_as) fields row (step_renamed step rule) =
      subst (λ (source : LogSource). MatchesAs read_as fields row (steps_renamed steps (step_renamed step rule)) ↔ MatchesAs (steps_view source steps read_as) fields row (step_renamed step rule))
      (same_source step rule) (steps_read steps read_as (step_renamed step rule)) in
      iff_then rest (step_reads step (steps_view rule.source steps read_as) rule)

  pub view_means : (steps : List Step) (rule : PlainRule) → Matches fields row (steps_renamed steps rule) ↔ MatchesAs (steps_view rule.source steps itself) fields row rule
  view_means steps rule = iff_then (iff_back (matches_plain (steps_renamed steps rule))) (steps_read steps itself rule)
