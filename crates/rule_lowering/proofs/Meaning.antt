-- The tree of a rule holds where the rule matches.
use Rattle.std.proofs.Common.{ℕ, zero, suc, ◌≡◌, ◌<◌, ◌≤◌, ◌^◌, ◌↔◌, Bool, true, false, inl, inr, List, [], ◌∷◌, length, map, refl, subst}
use Rattle.std.specs.Prelude.{Option, Some, None, unwrap_or}
use Rattle.backend_core.specs.Holds.{TreeHolds}
use Rattle.backend_core.specs.FieldAt.{kind_at}
use Rattle.backend_core.specs.Trees.{Plain}
use Rattle.event_schema.specs.Addresses.{IsAddress}
use Rattle.event_schema.specs.Events.{IsOfKind, IsEvent}
use Rattle.event_schema.specs.Rows.{field_number, field_values, value_text, values_if_any}
use Rattle.event_schema.specs.declared.schema.Field.{Field}
use Rattle.event_schema.specs.declared.schema.FieldKind.{FieldKind}
use Rattle.event_schema.specs.declared.schema.FieldKind.TheVariants as kinds
use Rattle.event_schema.specs.declared.schema.Schema.{Schema}
use Rattle.event_schema.specs.declared.value.Value.{Value}
use Rattle.event_schema.specs.declared.value.Value.TheVariants as values
use Rattle.event_schema.specs.Lists.{EachOf, SomeOf}
use Rattle.rule_model.specs.Matching.{named, JoinedHolds, FieldSatisfies, KeywordSatisfied, FieldsHold, ItemHolds, DetectionHolds, NumberHolds, FormHolds, AllFormsHold, SomeFormHolds, Matches}
use Rattle.rule_detections.specs.Whole.{IsWholeValue, AreWholeFields, IsWholeItem, IsWholeAlternative, IsWholeDetection}
use Rattle.rule_model.specs.Plain.{PlainRule}
use Rattle.rule_model.specs.Whole.{IsWhole}
use Rattle.rule_schema.specs.Inferred.{fields_refusal, fit_refusal}
use Rattle.rule_detections.specs.declared.detection.Detection.{Detection}
use Rattle.rule_detections.specs.declared.item.Fields.{Fields}
use Rattle.rule_detections.specs.declared.item.Fields.TheVariants.{Keyword, Names}
use Rattle.rule_detections.specs.declared.item.Item.{Item}
use Rattle.sig_base.specs.Folding.{folded}
use Rattle.sig_base.specs.declared.refusal.Place.{Place}
use Rattle.sig_conditions.specs.Formulas.{PlainFormula, FDetection, FNot, FAnd, FOr, PlainFormulas, no_forms, form}
use Rattle.rule_detections.specs.Holds.{Holds}
use Rattle.rule_detections.specs.PlainTests.{IsPlainNetwork, IsPatternTest}
use Rattle.modifier_words.specs.declared.modifier.Joined.{Joined}
use Rattle.modifier_words.specs.declared.modifier.Joined.TheVariants.{All, Any}
use Rattle.rule_detections.specs.declared.test.Test.{Test}
use Rattle.rule_detections.specs.declared.test.Test.TheVariants as tests
use Rattle.modifier_windash.specs.Choices.{choices}
use Rattle.sig_encode.specs.Networks.{Net, InNetwork, patterns_of}
use Rattle.sig_strings.specs.Edits.{has_wildcard, plain_text}
use Rattle.sig_strings.specs.Fits.{Fits, SomeFits}
use Rattle.sig_strings.specs.declared.part.Part.{Part}
use Rattle.rule_lowering.specs.Joining.{join}
use Rattle.rule_lowering.specs.TreeOf.{leaf_test, written_tree, written_tests, test_tree, value_tree, keyword_tree, number_tree, fields_tree, item_tree, alternative_tree, detection_tree, numbered_tree, form_tree, form_trees, tree_of}
use Rattle.schema_index.specs.Numbers.{number_of, searched}
use Rattle.rule_model.proofs.Iffs.{iff_same, iff_then, iff_back, iff_not, iff_both, iff_either, over_map, some_same, some_filtered}
use Rattle.rule_lowering.proofs.JoiningLemmas.{join_holds, join_map, join_good}
use Rattle.rule_lowering.proofs.Fitted.{IsMet, AreMet, ItemPasses, DetectionPasses, Fine, each_both, names_fit, patterns_met, names_met, rule_fine}
use Rattle.rule_lowering.proofs.TestMeaning.{IsLeafTest, Passes, leaf_holds, some_each, test_means}

-- where there is no value behind the last field's
behind_last : (fields : List Field) (row : List (List Value)) → IsEvent fields row → field_values row (length fields) ≡ []
behind_last [] [] h = refl
behind_last [] (v ∷ vs) h = absurd h
behind_last (f ∷ fs) [] h = absurd h
behind_last (f ∷ fs) (v ∷ vs) h = behind_last fs vs h.1

numbered_values : (fields : List Field) (row : List (List Value)) → IsEvent fields row → (number : Option ℕ)
    → field_values row (unwrap_or number (length fields)) ≡ values_if_any row number
numbered_values fields row h None = behind_last fields row h
numbered_values fields row h (Some k) = refl

values_of_kind : (fields : List Field) (row : List (List Value)) → IsEvent fields row → (k : ℕ) → EachOf (IsOfKind (kind_at fields k)) (field_values row k)
values_of_kind [] [] h k = tt
values_of_kind [] (v ∷ vs) h k = absurd h
values_of_kind (f ∷ fs) [] h k = absurd h
values_of_kind (f ∷ fs) (v ∷ vs) h zero = h.0.kinds
values_of_kind (f ∷ fs) (v ∷ vs) h (suc k) = values_of_kind fs vs h.1 k

-- ---- a test and those that stand for it

some_then : {A : Type 0} (P Q : A → Type 0) → ((x : A) → P x → Q x) → (xs : List A) → SomeOf P xs → SomeOf Q xs
some_then P Q gives [] h = h
some_then P Q gives (x ∷ xs) h = elim h [ inl e ↦ inl (gives x e) | inr e ↦ inr (some_then P Q gives xs e) ]

some_one : {A : Type 0} (P : A → Type 0) (x : A) → SomeOf P (x ∷ []) ↔ P x
some_one P x = ((λ h. elim h [ inl e ↦ e | inr e ↦ absurd e ]), (λ h. inl h))

-- some of these with some of those
turned : {A B : Type 0} (F : A → B → Type 0) (xs : List A) (ys : List B) → SomeOf (λ x. SomeOf (F x) ys) xs → SomeOf (λ y. SomeOf (λ x. F x y) xs) ys
turned F [] ys h = absurd h
turned F (x ∷ xs) ys h = elim h [
  | inl e ↦ some_then (F x) (λ y. SomeOf (λ z. F z y) (x ∷ xs)) (λ y f. inl f) ys e
  | inr e ↦ some_then (λ y. SomeOf (λ z. F z y) xs) (λ y. SomeOf (λ z. F z y) (x ∷ xs)) (λ y f. inr f) ys (turned F xs ys e)
]

some_fits : (patterns : List (List Part)) (text : List ℕ) (cased : Bool) → SomeFits patterns text cased ↔ SomeOf (λ parts. Fits parts text cased) patterns
some_fits [] text cased = iff_same
some_fits (parts ∷ patterns) text cased = iff_either iff_same (some_fits patterns text cased)

-- of patterns some fits some value exactly where some value is fitted by some of them
patterns_turned : (named : List ℕ → List Value) (patterns : List (List Part)) (cased : Bool) (values : List Value)
    → SomeOf (λ t. Holds named t values) (map (λ chosen. tests.Fits chosen cased) patterns)
    ↔ SomeOf (λ value. SomeOf (λ chosen. Fits chosen (value_text value) cased) patterns) values
patterns_turned named patterns cased values =
    let of_values : List Part → Value → Type 0 = λ chosen value. Fits chosen (value_text value) cased in
    iff_then
    (over_map Any (λ chosen. tests.Fits chosen cased) (λ t. Holds named t values) (λ chosen. SomeOf (of_values chosen) values) (λ chosen. iff_same) patterns)
    (turned of_values patterns values, turned (λ value chosen. of_values chosen value) values patterns)

abbrev ChoicesFit : Type 0
ChoicesFit = (parts : List Part) (text : List ℕ) (cased : Bool) → Fits parts text cased ↔ SomeFits (choices parts) text cased

abbrev NetworksFit : Type 0
NetworksFit = (n : Net) (text : List ℕ) (cased : Bool) → n.bits < 2 ^ 32 → n.prefix ≤ 32 → IsAddress text → SomeFits (patterns_of n) text cased ↔ InNetwork n text

-- an address is of a network exactly where some of the network's patterns fits it
address_fits : NetworksFit → (n : Net) → IsPlainNetwork n → (value : Value) → IsOfKind kinds.Address value
    → SomeOf (λ parts. Fits parts (value_text value) false) (patterns_of n) ↔ InNetwork n (value_text value)
address_fits networks_fit n plain (values.Text text) known =
    iff_then (iff_back (some_fits (patterns_of n) text false)) (networks_fit n text false plain.0 plain.1 known.1)
address_fits networks_fit n plain (values.Whole m) known = absurd known

-- what stands for a test holds exactly where the test does, on a field of a kind that takes it
module _ (fields : List Field) (named : List ℕ → List Value) where
  written_hold : ChoicesFit → NetworksFit → (kind : FieldKind) (test : Test) → IsMet fields kind test → (all : List Value) → EachOf (IsOfKind kind) all
      → SomeOf (λ t. Holds named t all) (written_tests test) ↔ Holds named test all
  written_hold choices_fit networks_fit kind tests.Absent met all known = some_one (λ t. Holds named t all) tests.Absent
  written_hold choices_fit networks_fit kind (tests.Exists there) met all known = some_one (λ t. Holds named t all) (tests.Exists there)
  written_hold choices_fit networks_fit kind (tests.Equals n) met all known = some_one (λ t. Holds named t all) (tests.Equals n)
  written_hold choices_fit networks_fit kind (tests.Fits parts cased) met all known =
      iff_then (patterns_turned named (choices parts) cased all)
      (some_same (λ value. SomeOf (λ chosen. Fits chosen (value_text value) cased) (choices parts)) (λ value. Fits parts (value_text value) cased)
      (λ value. iff_back (iff_then (choices_fit parts (value_text value) cased) (some_fits (choices parts) (value_text value) cased))) all)
  written_hold choices_fit networks_fit kind (tests.Inside n) met all known =
      iff_then (patterns_turned named (patterns_of n) false all)
      (some_each (IsOfKind kinds.Address) (λ value. SomeOf (λ parts. Fits parts (value_text value) false) (patterns_of n)) (λ value. InNetwork n (value_text value))
      (address_fits networks_fit n met.0) all (subst (λ (k : FieldKind). EachOf (IsOfKind k) all) met.1 known))
  written_hold choices_fit networks_fit kind (tests.Compare op n) met all known = some_one (λ t. Holds named t all) (tests.Compare op n)
  written_hold choices_fit networks_fit kind (tests.SameAs name) met all known = some_one (λ t. Holds named t all) (tests.SameAs name)
  written_hold choices_fit networks_fit kind (tests.Finds text flags) met all known = some_one (λ t. Holds named t all) (tests.Finds text flags)

each_fits : (patterns : List (List Part)) (cased : Bool) → EachOf IsLeafTest (map (λ chosen. tests.Fits chosen cased) patterns)
each_fits [] cased = tt
each_fits (parts ∷ patterns) cased = (tt, each_fits patterns cased)

-- and a leaf can ask each of them
each_leaf : (test : Test) → EachOf IsLeafTest (written_tests test)
each_leaf tests.Absent = (tt, tt)
each_leaf (tests.Exists there) = (tt, tt)
each_leaf (tests.Fits parts cased) = each_fits (choices parts) cased
each_leaf (tests.Equals n) = (tt, tt)
each_leaf (tests.Inside n) = each_fits (patterns_of n) false
each_leaf (tests.Compare op n) = (tt, tt)
each_leaf (tests.SameAs name) = (tt, tt)
each_leaf (tests.Finds text flags) = (tt, tt)

-- patterns of characters alone fit their own text, exactly or after folding
module _
    (plain_cased : (parts : List Part) (text : List ℕ) → has_wildcard parts ≡ false → Fits parts text true ↔ (text ≡ plain_text parts))
    (plain_folded : (parts : List Part) (text : List ℕ) → has_wildcard parts ≡ false → Fits parts text false ↔ (folded text ≡ folded (plain_text parts)))
    (choices_fit : ChoicesFit) (networks_fit : NetworksFit) where
  module _ (fields : List Field) (row : List (List Value)) (event : IsEvent fields row) where
    abbrev kind : ℕ → FieldKind
    kind n = kind_at fields n

    -- the kind of a name's field, and the values that it has
    abbrev named_kind : List ℕ → FieldKind
    named_kind name = kind (number_of fields name)

    abbrev named_values : List ℕ → List Value
    named_values name = named fields row name

    named_same : (name : List ℕ) → field_values row (number_of fields name) ≡ named_values name
    named_same name = numbered_values fields row event (field_number fields name)

    named_known : (name : List ℕ) → EachOf (IsOfKind (named_kind name)) (named_values name)
    named_known name =
        subst (λ (all : List Value). EachOf (IsOfKind (named_kind name)) all) (named_same name) (values_of_kind fields row event (number_of fields name))

    abbrev NamedHold : List ℕ → Test → Type 0
    NamedHold name test = Holds named_values test (named_values name)

    written_means : (place : Place) (name : List ℕ) (test : Test) → IsLeafTest test
        → TreeHolds row (written_tree fields place (named_kind name) (number_of fields name) test) ↔ NamedHold name test
    written_means place name test plain =
        let n = number_of fields name in
        let there : Passes row (leaf_test fields (kind n) test) (field_values row n) ↔ NamedHold name test =
        subst (λ (all : List Value). Passes row (leaf_test fields (kind n) test) (field_values row n) ↔ Holds named_values test all)
        (named_same name)
        (test_means plain_cased plain_folded row fields named_values named_same (kind n) test (field_values row n) plain (values_of_kind fields row event n)) in
        iff_then (leaf_holds row place n (leaf_test fields (kind n) test)) there

    one_means : (place : Place) (name : List ℕ) (test : Test) → IsMet fields (named_kind name) test
        → TreeHolds row (test_tree fields place (named_kind name) (number_of fields name) test) ↔ NamedHold name test
    one_means place name test met =
        iff_then
        (join_good row Any (written_tree fields place (named_kind name) (number_of fields name)) (NamedHold name) IsLeafTest
        (written_means place name) (written_tests test) (each_leaf test))
        (written_hold fields named_values choices_fit networks_fit (named_kind name) test met (named_values name) (named_known name))

    value_means : (place : Place) (name : List ℕ) (ts : List Test) → AreMet fields (named_kind name) ts
        → TreeHolds row (value_tree fields place (named_kind name) (number_of fields name) ts) ↔ FieldSatisfies fields row name ts
    value_means place name ts met =
        join_good row Any (test_tree fields place (named_kind name) (number_of fields name)) (NamedHold name) (IsMet fields (named_kind name))
        (one_means place name) ts met

    joined_means : (j : Joined) (f : List Test → Plain) (Q Good : List Test → Type 0) → ((ts : List Test) → Good ts → TreeHolds row (f ts) ↔ Q ts)
        → (values : List (List Test)) → EachOf Good values → TreeHolds row (join j (map f values)) ↔ JoinedHolds j Q values
    joined_means All f Q Good same values good = join_good row All f Q Good same values good
    joined_means Any f Q Good same values good = join_good row Any f Q Good same values good

    keyword_means : (place : Place) (ts : List Test) → EachOf IsPatternTest ts → TreeHolds row (keyword_tree fields place ts) ↔ KeywordSatisfied fields row ts
    keyword_means place ts patterns =
        iff_then
        (join_map row Any (λ n. value_tree fields place (kind n) n ts) (λ n. TreeHolds row (value_tree fields place (kind n) n ts)) (λ n. iff_same) (searched fields))
        (some_filtered (λ f. f.search) (λ f. number_of fields f.name) (λ n. TreeHolds row (value_tree fields place (kind n) n ts))
        (λ f. FieldSatisfies fields row f.name ts) (λ f. value_means place f.name ts (patterns_met fields (named_kind f.name) ts patterns)) fields)

    fields_mean : (place : Place) (j : Joined) (values : List (List Test)) (fs : Fields) → AreWholeFields fs values → EachOf IsWholeValue values
        → fields_refusal fields place values fs ≡ None → TreeHolds row (fields_tree fields place j values fs) ↔ FieldsHold fields row j values fs
    fields_mean place j values Keyword patterns whole fits =
        joined_means j (keyword_tree fields place) (KeywordSatisfied fields row) (λ ts. EachOf IsPatternTest ts) (keyword_means place) values patterns
    fields_mean place j values (Names names) patterns whole fits =
        join_good row Any (λ name. number_tree fields place j values (number_of fields name)) (λ name. JoinedHolds j (FieldSatisfies fields row name) values)
        (λ name. EachOf (AreMet fields (named_kind name)) values)
        (λ name met. joined_means j (value_tree fields place (named_kind name) (number_of fields name)) (FieldSatisfies fields row name) (AreMet fields (named_kind name))
        (value_means place name) values met)
        names (names_met fields values names whole (names_fit fields place values names fits))

    item_means : (i : Item) → IsWholeItem i × ItemPasses fields i → TreeHolds row (item_tree fields i) ↔ ItemHolds fields row i
    item_means i h = fields_mean i.place i.joined i.tests i.fields h.0.fields h.0.each h.1

    alternative_means : (items : List Item) → IsWholeAlternative items × EachOf (ItemPasses fields) items
        → TreeHolds row (alternative_tree fields items) ↔ EachOf (ItemHolds fields row) items
    alternative_means items h =
        join_good row All (item_tree fields) (ItemHolds fields row) (λ i. IsWholeItem i × ItemPasses fields i) item_means items
        (each_both IsWholeItem (ItemPasses fields) items h.0.each h.1)

    detection_means : (d : Detection) → IsWholeDetection d × DetectionPasses fields d → TreeHolds row (detection_tree fields d) ↔ DetectionHolds fields row d
    detection_means d h =
        join_good row Any (alternative_tree fields) (λ items. EachOf (ItemHolds fields row) items) (λ items. IsWholeAlternative items × EachOf (ItemPasses fields) items)
        alternative_means d.alternatives (each_both IsWholeAlternative (λ items. EachOf (ItemPasses fields) items) d.alternatives h.0.each h.1)

    numbered_means : (ds : List Detection) → Fine fields ds → (n : ℕ) → TreeHolds row (numbered_tree fields ds n) ↔ NumberHolds fields row ds n
    numbered_means [] fine n = iff_same
    numbered_means (d ∷ ds) fine zero = detection_means d fine.0
    numbered_means (d ∷ ds) fine (suc n) = numbered_means ds fine.1 n

    mutual
      form_means : (ds : List Detection) → Fine fields ds → (f : PlainFormula) → TreeHolds row (form_tree fields ds f) ↔ FormHolds fields row ds f
      form_means ds fine (FDetection n) = numbered_means ds fine n
      form_means ds fine (FNot f) = iff_not (form_means ds fine f)
      form_means ds fine (FAnd fs) = iff_then (join_holds row All (form_trees fields ds fs)) (all_forms_mean ds fine fs)
      form_means ds fine (FOr fs) = iff_then (join_holds row Any (form_trees fields ds fs)) (some_forms_mean ds fine fs)

      all_forms_mean : (ds : List Detection) → Fine fields ds → (fs : PlainFormulas)
          → EachOf (TreeHolds row) (form_trees fields ds fs) ↔ AllFormsHold fields row ds fs
      all_forms_mean ds fine no_forms = iff_same
      all_forms_mean ds fine (form f fs) = iff_both (form_means ds fine f) (all_forms_mean ds fine fs)

      some_forms_mean : (ds : List Detection) → Fine fields ds → (fs : PlainFormulas)
          → SomeOf (TreeHolds row) (form_trees fields ds fs) ↔ SomeFormHolds fields row ds fs
      some_forms_mean ds fine no_forms = iff_same
      some_forms_mean ds fine (form f fs) = iff_either (form_means ds fine f) (some_forms_mean ds fine fs)

  pub tree_means : (schema : Schema) (rule : PlainRule) (row : List (List Value)) → IsWhole rule → fit_refusal schema rule ≡ None → IsEvent schema.fields row
      → TreeHolds row (tree_of schema rule) ↔ Matches schema.fields row rule
  tree_means schema rule row whole fits event =
      join_map row Any (form_tree schema.fields rule.detections) (FormHolds schema.fields row rule.detections)
      (form_means schema.fields row event rule.detections (rule_fine schema rule whole fits)) rule.conditions
