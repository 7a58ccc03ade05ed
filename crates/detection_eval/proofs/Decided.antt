-- A rule matches an event or it doesn't: each of its parts holds or doesn't.
use Rattle.std.proofs.Common.{◌≡◌, ℕ, zero, suc, Bool, true, false, List, [], ◌∷◌, refl, sym, ap, ◌∙◌, ◌⊎◌, inl, inr, subst}
use Rattle.std.specs.Prelude.{ℤ, ◌≤ℤ◌, ◌<ℤ◌}
use Rattle.std.specs.Fmt.{signed_decimal}
use Rattle.std.specs.Int.Signed.{le_z, le_z_yes, lt_z, lt_z_yes}
use Rattle.std.proofs.Math.Dec.{T}
use Rattle.std.specs.Str.{bytes_eq}
use Rattle.std.proofs.lemmas.Bool.{false≢true}
use Rattle.std.proofs.lemmas.Slice.Eq.{bytes_eq-Decides}
use Rattle.event_schema.specs.Rows.{value_text}
use Rattle.event_schema.specs.declared.schema.Field.{Field}
use Rattle.event_schema.specs.declared.value.Value.{Value}
use Rattle.event_schema.specs.declared.value.Value.TheVariants as values
use Rattle.query_lang.specs.Patterns.{finds}
use Rattle.matching.proofs.SuffixLemmas.{SuffixHolds-here, SuffixHolds-more, SuffixHolds-split, SuffixHolds-nil}
use Rattle.matching.specs.Steps.{is_dash}
use Rattle.matching.specs.Suffixes.{SuffixHolds, CharThen}
use Rattle.event_schema.specs.Lists.{EachOf, SomeOf, HasElement, HasNoElement}
use Rattle.rule_model.specs.Matching.{named, JoinedHolds, FieldSatisfies, KeywordSatisfied, FieldsHold, ItemHolds, DetectionHolds, NumberHolds, FormHolds, AllFormsHold, SomeFormHolds, Matches}
use Rattle.rule_model.specs.Plain.{PlainRule}
use Rattle.rule_detections.specs.declared.detection.Detection.{Detection}
use Rattle.rule_detections.specs.declared.item.Fields.{Fields}
use Rattle.rule_detections.specs.declared.item.Fields.TheVariants.{Keyword, Names}
use Rattle.rule_detections.specs.declared.item.Item.{Item}
use Rattle.sig_conditions.specs.Formulas.{PlainFormula, FDetection, FNot, FAnd, FOr, PlainFormulas, no_forms, form}
use Rattle.sig_base.specs.Folding.{folded}
use Rattle.rule_detections.specs.Holds.{AreSame, Holds, Stands, ValueStands}
use Rattle.modifier_words.specs.declared.modifier.Joined.{Joined}
use Rattle.modifier_words.specs.declared.modifier.Joined.TheVariants.{All, Any}
use Rattle.modifier_words.specs.declared.modifier.Op.{Op}
use Rattle.modifier_words.specs.declared.modifier.Op.TheVariants as ops
use Rattle.rule_detections.specs.declared.test.Test.{Test}
use Rattle.rule_detections.specs.declared.test.Test.TheVariants as tests
use Rattle.detection_eval.proofs.Networks.{inside_decided}
use Rattle.sig_strings.specs.Fits.{Fits, same_char}
use Rattle.sig_strings.specs.declared.part.Part.{Part}
use Rattle.sig_strings.specs.declared.part.Part.TheVariants.{Char, One, Run, Dash, Hole}
use Rattle.modifier_values.specs.Expressions.{expression_text}

-- it holds, or it doesn't
abbrev pub Decided : Type 0 → Type 0
Decided P = P ⊎ (P → ⊥)

both : {P Q : Type 0} → Decided P → Decided Q → Decided (P × Q)
both (inl p) (inl q) = inl (p, q)
both (inl p) (inr n) = inr (λ h. n h.1)
both (inr n) d = inr (λ h. n h.0)

neither : {P Q : Type 0} → (P → ⊥) → (Q → ⊥) → P ⊎ Q → ⊥
neither n m (inl p) = n p
neither n m (inr q) = m q

either : {P Q : Type 0} → Decided P → Decided Q → Decided (P ⊎ Q)
either (inl p) d = inl (inl p)
either (inr n) (inl q) = inl (inr q)
either (inr n) (inr m) = inr (neither n m)

not_so : {P : Type 0} → Decided P → Decided (P → ⊥)
not_so (inl p) = inr (λ n. n p)
not_so (inr n) = inl n

is_true : (b : Bool) → Decided (b ≡ true)
is_true true = inl refl
is_true false = inr false≢true

is_false : (b : Bool) → Decided (b ≡ false)
is_false false = inl refl
is_false true = inr (λ e. false≢true (sym e))

each : {A : Type 0} → (P : A → Type 0) → ((x : A) → Decided (P x)) → (xs : List A) → Decided (EachOf P xs)
each P d [] = inl tt
each P d (x ∷ xs) = both (d x) (each P d xs)

some : {A : Type 0} → (P : A → Type 0) → ((x : A) → Decided (P x)) → (xs : List A) → Decided (SomeOf P xs)
some P d [] = inr (λ h. h)
some P d (x ∷ xs) = either (d x) (some P d xs)

like : {P Q : Type 0} → (P → Q) → (Q → P) → Decided P → Decided Q
like f g (inl p) = inl (f p)
like f g (inr n) = inr (λ q. n (g q))

-- ---- patterns

module _ (passes : ℕ → Bool) (P : List ℕ → Type 0) (d : (text : List ℕ) → Decided (P text)) where
  char_then : (text : List ℕ) → Decided (CharThen passes P text)
  char_then [] = inr (λ h. let e : [] ≡ h.first ∷ h.rest = h.shape in absurd cc)
  char_then (c ∷ cs) =
      like (λ (h : (passes c ≡ true) × P cs). record { first = c; rest = cs; shape = refl; passed = h.0; holds_then = h.1 })
      (λ h. let e : c ∷ cs ≡ h.first ∷ h.rest = h.shape in
      let same : h.first ≡ c = cc in
      let others : h.rest ≡ cs = cc in
      (ap passes (sym same) ∙ h.passed, subst P others h.holds_then))
      (both (is_true (passes c)) (d cs))

module _ (P : List ℕ → Type 0) (d : (text : List ℕ) → Decided (P text)) where
  suffix_of : (text : List ℕ) → Decided (SuffixHolds P text)
  suffix_of [] = like (SuffixHolds-here P []) (SuffixHolds-nil P) (d [])
  suffix_of (c ∷ cs) = like there (SuffixHolds-split P c cs) (either (d (c ∷ cs)) (suffix_of cs)) where
    there : P (c ∷ cs) ⊎ SuffixHolds P cs → SuffixHolds P (c ∷ cs)
    there (inl h) = SuffixHolds-here P (c ∷ cs) h
    there (inr h) = SuffixHolds-more P c cs h

same_texts : (xs ys : List ℕ) → Decided (xs ≡ ys)
same_texts xs ys = like (bytes_eq-Decides xs ys).0 (bytes_eq-Decides xs ys).1 (is_true (bytes_eq xs ys))

fits : (parts : List Part) (cased : Bool) (text : List ℕ) → Decided (Fits parts text cased)
fits [] cased text = same_texts text []
fits (Char c ∷ parts) cased text = char_then (same_char cased c) (λ rest. Fits parts rest cased) (fits parts cased) text
fits (One ∷ parts) cased text = char_then (λ d. true) (λ rest. Fits parts rest cased) (fits parts cased) text
fits (Run ∷ parts) cased text = suffix_of (λ rest. Fits parts rest cased) (fits parts cased) text
fits (Dash ∷ parts) cased text = char_then is_dash (λ rest. Fits parts rest cased) (fits parts cased) text
fits (Hole name ∷ parts) cased text = inr (λ h. h)

-- ---- numbers

truth : (b : Bool) → Decided (T b)
truth true = inl tt
truth false = inr (λ h. h)

at_most : (a b : ℤ) → Decided (a ≤ℤ b)
at_most a b = like le_z_yes (λ h. h.le) (truth (le_z a b))

below : (a b : ℤ) → Decided (a <ℤ b)
below a b = like lt_z_yes (λ h. h.lt) (truth (lt_z a b))

stands : (op : Op) (n own : ℤ) → Decided (Stands op n own)
stands ops.Lt n own = below own n
stands ops.Lte n own = at_most own n
stands ops.Gt n own = below n own
stands ops.Gte n own = at_most n own

value_stands : (op : Op) (n : ℤ) (value : Value) → Decided (ValueStands op n value)
value_stands op n (values.Text text) = inr (λ h. h)
value_stands op n (values.Whole own) = stands op n own

-- ---- tests

some_value : (values : List Value) → Decided (HasElement values)
some_value [] = inr (λ h. h)
some_value (v ∷ values) = inl tt

no_value : (values : List Value) → Decided (HasNoElement values)
no_value [] = inl tt
no_value (v ∷ values) = inr (λ h. h)

are_same : (value other : Value) → Decided (AreSame value other)
are_same value other = same_texts (folded (value_text value)) (folded (value_text other))

module _ (of_name : List ℕ → List Value) where
  holds : (own : List Value) (test : Test) → Decided (Holds of_name test own)
  holds own tests.Absent = no_value own
  holds own (tests.Exists true) = some_value own
  holds own (tests.Exists false) = no_value own
  holds own (tests.Fits parts cased) = some _ (λ (value : Value). fits parts cased (value_text value)) own
  holds own (tests.Inside n) = some _ (λ (value : Value). inside_decided n (value_text value)) own
  holds own (tests.Equals n) = some _ (λ (value : Value). same_texts (value_text value) (signed_decimal n)) own
  holds own (tests.Compare op n) = some (ValueStands op n) (value_stands op n) own
  holds own (tests.SameAs name) =
      some (λ (value : Value). SomeOf (AreSame value) (of_name name)) (λ (value : Value). some (AreSame value) (are_same value) (of_name name)) own
  holds own (tests.Finds text flags) = some _ (λ (value : Value). is_true (finds (expression_text flags text) (value_text value))) own

-- ---- rules

module _ (fields : List Field) (row : List (List Value)) where
  field_satisfies : (name : List ℕ) (tests : List Test) → Decided (FieldSatisfies fields row name tests)
  field_satisfies name tests = some _ (holds (named fields row) (named fields row name)) tests

  keyword_satisfied : (tests : List Test) → Decided (KeywordSatisfied fields row tests)
  keyword_satisfied tests = some _ (λ (field : Field). both (is_true field.search) (field_satisfies field.name tests)) fields

  joined_holds : (joined : Joined) (P : List Test → Type 0) → ((tests : List Test) → Decided (P tests)) → (values : List (List Test)) → Decided (JoinedHolds joined P values)
  joined_holds All P d values = each P d values
  joined_holds Any P d values = some P d values

  fields_hold : (joined : Joined) (values : List (List Test)) (asked : Fields) → Decided (FieldsHold fields row joined values asked)
  fields_hold joined values Keyword = joined_holds joined _ keyword_satisfied values
  fields_hold joined values (Names names) = some _ (λ (name : List ℕ). joined_holds joined _ (field_satisfies name) values) names

  item_holds : (i : Item) → Decided (ItemHolds fields row i)
  item_holds i = fields_hold i.joined i.tests i.fields

  detection_holds : (d : Detection) → Decided (DetectionHolds fields row d)
  detection_holds d = some _ (λ (items : List Item). each _ item_holds items) d.alternatives

  number_holds : (ds : List Detection) (n : ℕ) → Decided (NumberHolds fields row ds n)
  number_holds [] n = inr (λ h. h)
  number_holds (d ∷ ds) zero = detection_holds d
  number_holds (d ∷ ds) (suc n) = number_holds ds n

  mutual
    form_holds : (ds : List Detection) (f : PlainFormula) → Decided (FormHolds fields row ds f)
    form_holds ds (FDetection n) = number_holds ds n
    form_holds ds (FNot f) = not_so (form_holds ds f)
    form_holds ds (FAnd fs) = all_hold ds fs
    form_holds ds (FOr fs) = some_hold ds fs

    all_hold : (ds : List Detection) (fs : PlainFormulas) → Decided (AllFormsHold fields row ds fs)
    all_hold ds no_forms = inl tt
    all_hold ds (form f fs) = both (form_holds ds f) (all_hold ds fs)

    some_hold : (ds : List Detection) (fs : PlainFormulas) → Decided (SomeFormHolds fields row ds fs)
    some_hold ds no_forms = inr (λ h. h)
    some_hold ds (form f fs) = either (form_holds ds f) (some_hold ds fs)

  pub matches_decided : (rule : PlainRule) → Decided (Matches fields row rule)
  matches_decided rule = some _ (form_holds rule.detections) rule.conditions
