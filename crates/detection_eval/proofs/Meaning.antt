-- A rule that is made ready matches where the rule does.
use Rattle.std.proofs.Common.{◌≡◌, ◌↔◌, IsTrue, ℕ, zero, suc, ◌<◌, Bool, true, false, not, ◌&&◌, ◌||◌, List, [], ◌∷◌, length, map, ◌⊎◌, inl, inr, refl, sym, ap, ◌∙◌, subst}
use Rattle.std.proofs.lemmas.Bool.{false≢true}
use Rattle.std.specs.Prelude.{Option, None, ⊤}
use Rattle.std.specs.List.{flat_map}
use Rattle.event_schema.specs.Lists.{EachOf, SomeOf}
use Rattle.event_schema.specs.Rows.{field_number, field_values, values_if_any}
use Rattle.event_schema.specs.declared.schema.Field.{Field}
use Rattle.event_schema.specs.declared.value.Value.{Value}
use Rattle.schema_index.proofs.Found.{each_within, number_found}
use Rattle.schema_index.specs.Numbers.{number_of, searched}
use Rattle.rule_detections.specs.declared.detection.Detection.{Detection}
use Rattle.rule_detections.specs.declared.expression.Expression.{Expression}
use Rattle.rule_detections.specs.declared.item.Fields.{Fields}
use Rattle.rule_detections.specs.declared.item.Fields.TheVariants.{Keyword, Names}
use Rattle.rule_detections.specs.declared.item.Item.{Item}
use Rattle.rule_model.proofs.Iffs.{iff_same, iff_then, each_then, some_filtered_of, over_map}
use Rattle.rule_model.specs.Matching.{named, JoinedHolds, FieldSatisfies, KeywordSatisfied, FieldsHold, ItemHolds, DetectionHolds, NumberHolds, FormHolds, AllFormsHold, SomeFormHolds, Matches}
use Rattle.rule_model.specs.Expressions.{item_expressions, detection_expressions, rule_expressions}
use Rattle.rule_model.specs.Plain.{PlainRule}
use Rattle.sig_conditions.specs.Formulas.{PlainFormula, FDetection, FNot, FAnd, FOr, PlainFormulas, no_forms, form, forms_of, value, all_true, some_true}
use Rattle.modifier_words.specs.declared.modifier.Joined.{Joined}
use Rattle.modifier_words.specs.declared.modifier.Joined.TheVariants.{All, Any}
use Rattle.rule_detections.specs.TestExpressions.{expression_of, expressions_in}
use Rattle.rule_detections.specs.Holds.{Holds}
use Rattle.rule_detections.specs.References.{listed}
use Rattle.rule_detections.specs.declared.test.Test.{Test}
use Rattle.rule_detections.specs.declared.test.Test.TheVariants as tests
use Rattle.detection_eval.specs.Ready.{NumberedHolds, Satisfies, ValuesHold, SearchSatisfies, AskedHolds, NumberedItemHolds, AlternativesHold, AreTruths, asked_of, numbered_test, numbered_item, numbered_detection, texts_of, PlainReady, ready_rule}
use Rattle.detection_eval.specs.Truths.{truth_at}
use Rattle.detection_eval.specs.declared.numbered.NumberedTest.{NumberedTest}
use Rattle.detection_eval.proofs.Standing.{Stands, all_stand, each_flat, each_mapped, over_map_of}

-- ---- truth values

not_means : {P : Type 0} (a : Bool) → (IsTrue a ↔ P) → IsTrue (not a) ↔ (P → ⊥)
not_means true p = ((λ never. absurd (false≢true never)), (λ none. absurd (none (p.0 refl))))
not_means false p = ((λ yes h. false≢true (p.1 h)), (λ none. refl))

and_means : {P Q : Type 0} (a b : Bool) → (IsTrue a ↔ P) → (IsTrue b ↔ Q) → IsTrue (a && b) ↔ (P × Q)
and_means true b p q = ((λ h. (p.0 refl, q.0 h)), (λ h. q.1 h.1))
and_means false b p q = ((λ never. absurd (false≢true never)), (λ h. p.1 h.0))

or_means : {P Q : Type 0} (a b : Bool) → (IsTrue a ↔ P) → (IsTrue b ↔ Q) → IsTrue (a || b) ↔ (P ⊎ Q)
or_means true b p q = ((λ h. inl (p.0 refl)), (λ h. refl))
or_means false b p q = ((λ h. inr (q.0 h)), (λ h. elim h [ inl x ↦ absurd (false≢true (p.1 x)) | inr y ↦ q.1 y ]))

true_means : IsTrue true ↔ ⊤
true_means = ((λ h. tt), (λ h. refl))

false_means : IsTrue false ↔ ⊥
false_means = ((λ never. absurd (false≢true never)), (λ h. absurd h))

-- ---- detections

abbrev no_expression : Option (List ℕ)
no_expression = None

-- of a test that searches for no regular expression
plainly : {P : Type 0} → ((no_expression ≡ None) × P) ↔ P
plainly = ((λ h. h.1), (λ h. (refl, h)))

-- the regular expressions of tests and of detections stand among these texts
module _ (texts : List (List ℕ)) where
  abbrev TestStands : Test → Type 0
  TestStands test = EachOf (Stands texts) (listed (expression_of test))

  abbrev TestsStand : List Test → Type 0
  TestsStand tests = EachOf (Stands texts) (flat_map (λ test. listed (expression_of test)) tests)

  abbrev AllStand : List Expression → Type 0
  AllStand expressions = EachOf (λ e. Stands texts e.text) expressions

  values_stand : (i : Item) → AllStand (item_expressions i) → EachOf TestsStand i.tests
  values_stand i all =
      each_flat (Stands texts) (λ value. flat_map (λ test. listed (expression_of test)) value) i.tests
      (each_mapped (λ (e : Expression). Stands texts e.text) (λ text. record { place = i.place; text = text }) (expressions_in i.tests) all)

module _ (fields : List Field) (texts : List (List ℕ)) (row : List (List Value)) where
  -- a test with the numbers of a field and of a regular expression asks of the same values, and for the same, as with its texts
  test_means : (test : Test) (own : List Value) → TestStands texts test
      → NumberedHolds texts row own (numbered_test fields texts test) ↔ Holds (named fields row) test own
  test_means tests.Absent own stands = plainly
  test_means (tests.Exists true) own stands = plainly
  test_means (tests.Exists false) own stands = plainly
  test_means (tests.Fits pattern cased) own stands = plainly
  test_means (tests.Equals n) own stands = plainly
  test_means (tests.Inside n) own stands = plainly
  test_means (tests.Compare op n) own stands = plainly
  test_means (tests.SameAs name) own stands = plainly
  test_means (tests.Finds text flags) own stands = rw stands.0.found (rw stands.0.there iff_same)

  value_means : (tests : List Test) (own : List Value) → TestsStand texts tests
      → Satisfies texts row own (map (numbered_test fields texts) tests) ↔ SomeOf (λ test. Holds (named fields row) test own) tests
  value_means tests own stand =
      over_map_of Any (numbered_test fields texts) (NumberedHolds texts row own) (λ test. Holds (named fields row) test own) tests
      (each_then (λ (test : Test) stands. test_means test own stands) tests (each_flat (Stands texts) (λ test. listed (expression_of test)) tests stand))

  -- a field's values are those of its name's number
  own_values : (tests : List Test) (name : List ℕ) → TestsStand texts tests → number_of fields name < length fields
      → Satisfies texts row (field_values row (number_of fields name)) (map (numbered_test fields texts) tests) ↔ FieldSatisfies fields row name tests
  own_values tests name stand within =
      subst (λ (own : List Value). Satisfies texts row (field_values row (number_of fields name)) (map (numbered_test fields texts) tests) ↔ SomeOf (λ test. Holds (named fields row) test own) tests)
      (sym (ap (values_if_any row) (number_found fields name within))) (value_means tests (field_values row (number_of fields name)) stand)

  search_means : (tests : List Test) → TestsStand texts tests
      → SearchSatisfies texts (searched fields) row (map (numbered_test fields texts) tests) ↔ KeywordSatisfied fields row tests
  search_means tests stand =
      some_filtered_of (λ f. f.search) (λ f. number_of fields f.name) (λ n. Satisfies texts row (field_values row n) (map (numbered_test fields texts) tests))
      (λ f. FieldSatisfies fields row f.name tests) fields
      (each_then (λ (f : Field) within. own_values tests f.name stand within) fields (each_within fields))

  values_mean : (j : Joined) (P : List NumberedTest → Type 0) (Q : List Test → Type 0) (values : List (List Test))
      → EachOf (λ tests. P (map (numbered_test fields texts) tests) ↔ Q tests) values
      → ValuesHold j P (map (map (numbered_test fields texts)) values) ↔ JoinedHolds j Q values
  values_mean All P Q values same = over_map_of All (map (numbered_test fields texts)) P Q values same
  values_mean Any P Q values same = over_map_of Any (map (numbered_test fields texts)) P Q values same

  asked_means : (j : Joined) (values : List (List Test)) (asked : Fields) → EachOf (TestsStand texts) values
      → AskedHolds texts (searched fields) row j (map (map (numbered_test fields texts)) values) (asked_of fields asked) ↔ FieldsHold fields row j values asked
  asked_means j values Keyword stand =
      values_mean j (SearchSatisfies texts (searched fields) row) (KeywordSatisfied fields row) values
      (each_then (λ (tests : List Test) own. search_means tests own) values stand)
  asked_means j values (Names names) stand =
      over_map Any (field_number fields) (λ number. ValuesHold j (Satisfies texts row (values_if_any row number)) (map (map (numbered_test fields texts)) values))
      (λ name. JoinedHolds j (FieldSatisfies fields row name) values)
      (λ name. values_mean j (Satisfies texts row (named fields row name)) (FieldSatisfies fields row name) values
      (each_then (λ (tests : List Test) own. value_means tests (named fields row name) own) values stand)) names

  item_means : (i : Item) → AllStand texts (item_expressions i)
      → NumberedItemHolds texts (searched fields) row (numbered_item fields texts i) ↔ ItemHolds fields row i
  item_means i stand = asked_means i.joined i.tests i.fields (values_stand texts i stand)

  alternative_means : (items : List Item) → AllStand texts (flat_map item_expressions items)
      → EachOf (NumberedItemHolds texts (searched fields) row) (map (numbered_item fields texts) items) ↔ EachOf (ItemHolds fields row) items
  alternative_means items stand =
      over_map_of All (numbered_item fields texts) (NumberedItemHolds texts (searched fields) row) (ItemHolds fields row) items
      (each_then (λ (i : Item) own. item_means i own) items (each_flat (λ (e : Expression). Stands texts e.text) item_expressions items stand))

  detection_means : (d : Detection) → AllStand texts (detection_expressions d)
      → AlternativesHold texts (searched fields) row (numbered_detection fields texts d) ↔ DetectionHolds fields row d
  detection_means d stand =
      over_map_of Any (map (numbered_item fields texts)) (λ items. EachOf (NumberedItemHolds texts (searched fields) row) items)
      (λ items. EachOf (ItemHolds fields row) items) d.alternatives
      (each_then (λ (items : List Item) own. alternative_means items own) d.alternatives
      (each_flat (λ (e : Expression). Stands texts e.text) (flat_map item_expressions) d.alternatives stand))

  number_means : (truths : List Bool) (ds : List Detection) → EachOf (λ d. AllStand texts (detection_expressions d)) ds
      → AreTruths texts (searched fields) row truths (map (numbered_detection fields texts) ds) → (n : ℕ)
      → IsTrue (truth_at truths n) ↔ NumberHolds fields row ds n
  number_means [] [] stand are n = false_means
  number_means [] (d ∷ ds) stand are n = absurd are
  number_means (b ∷ truths) [] stand are n = absurd are
  number_means (b ∷ truths) (d ∷ ds) stand are zero = iff_then are.0 (detection_means d stand.0)
  number_means (b ∷ truths) (d ∷ ds) stand are (suc n) = number_means truths ds stand.1 are.1 n

  -- ---- formulas

  module _ (truths : List Bool) (ds : List Detection) (stand : EachOf (λ d. AllStand texts (detection_expressions d)) ds)
      (are : AreTruths texts (searched fields) row truths (map (numbered_detection fields texts) ds)) where
    mutual
      form_means : (f : PlainFormula) → IsTrue (value (truth_at truths) f) ↔ FormHolds fields row ds f
      form_means (FDetection n) = number_means truths ds stand are n
      form_means (FNot f) = not_means (value (truth_at truths) f) (form_means f)
      form_means (FAnd fs) = all_mean fs
      form_means (FOr fs) = some_mean fs

      all_mean : (fs : PlainFormulas) → IsTrue (all_true (truth_at truths) fs) ↔ AllFormsHold fields row ds fs
      all_mean no_forms = true_means
      all_mean (form f fs) = and_means (value (truth_at truths) f) (all_true (truth_at truths) fs) (form_means f) (all_mean fs)

      some_mean : (fs : PlainFormulas) → IsTrue (some_true (truth_at truths) fs) ↔ SomeFormHolds fields row ds fs
      some_mean no_forms = false_means
      some_mean (form f fs) = or_means (value (truth_at truths) f) (some_true (truth_at truths) fs) (form_means f) (some_mean fs)

    conditions_mean : (fs : List PlainFormula) → IsTrue (some_true (truth_at truths) (forms_of fs)) ↔ SomeOf (FormHolds fields row ds) fs
    conditions_mean [] = false_means
    conditions_mean (f ∷ fs) = or_means (value (truth_at truths) f) (some_true (truth_at truths) (forms_of fs)) (form_means f) (conditions_mean fs)

-- each regular expression of a rule stands among all of them
detections_stand : (rule : PlainRule) → EachOf (λ d. AllStand (texts_of (rule_expressions rule)) (detection_expressions d)) rule.detections
detections_stand rule =
    let texts : List (List ℕ) = texts_of (rule_expressions rule) in
    each_flat (λ (e : Expression). Stands texts e.text) detection_expressions rule.detections
    (each_mapped (Stands texts) (λ (e : Expression). e.text) (rule_expressions rule) (all_stand texts))

-- what is computed of the truths of a ready rule's detections is whether the rule matches
pub ready_means : (fields : List Field) (row : List (List Value)) (rule : PlainRule) (ready : PlainReady) → ready ≡ ready_rule fields rule → (truths : List Bool)
    → AreTruths ready.expressions ready.searched row truths ready.detections
    → (b : Bool) → b ≡ some_true (truth_at truths) (forms_of ready.conditions) → IsTrue b ↔ Matches fields row rule
ready_means fields row rule ready stands truths are b is =
    subst (λ (a : Bool). IsTrue a ↔ Matches fields row rule)
    (sym (is ∙ ap (λ (r : PlainReady). some_true (truth_at truths) (forms_of r.conditions)) stands))
    (conditions_mean fields (texts_of (rule_expressions rule)) row truths rule.detections (detections_stand rule)
    (subst (λ (r : PlainReady). AreTruths r.expressions r.searched row truths r.detections) stands are) rule.conditions)
