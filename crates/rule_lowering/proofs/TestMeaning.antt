-- What a leaf asks of a field holds where the test does, for each kind of field.
use Rattle.std.proofs.Common.{ℕ, ◌≡◌, ◌↔◌, ℤ, Bool, true, false, if◌then◌else◌, List, [], ◌∷◌, inl, inr, refl, sym, ap, subst, ◌∙◌}
use Rattle.std.specs.Prelude.{Option, Some, None, option_map, ⊤}
use Rattle.std.specs.Fmt.{signed_decimal}
use Rattle.std.specs.List.{list_all}
use Rattle.backend_core.specs.Holds as leaves
use Rattle.backend_core.specs.Holds.{TestHolds, TreeHolds, AreSame}
use Rattle.backend_core.specs.declared.tree.LeafTest.{LeafTest}
use Rattle.backend_core.specs.declared.tree.LeafTest.TheVariants as leaf_tests
use Rattle.event_schema.specs.Events.{IsOfKind}
use Rattle.event_schema.specs.Lists.{EachOf, SomeOf}
use Rattle.event_schema.specs.Rows.{field_values, value_text}
use Rattle.event_schema.specs.declared.schema.Field.{Field}
use Rattle.event_schema.specs.declared.schema.FieldKind.{FieldKind}
use Rattle.event_schema.specs.declared.schema.FieldKind.TheVariants as kinds
use Rattle.event_schema.specs.declared.value.Value.{Value}
use Rattle.event_schema.specs.declared.value.Value.TheVariants as values
use Rattle.schema_index.specs.Numbers.{number_of}
use Rattle.modifier_words.specs.declared.modifier.Op.{Op}
use Rattle.modifier_words.specs.declared.modifier.Op.TheVariants as ops
use Rattle.sig_base.specs.Folding.{folded}
use Rattle.sig_base.specs.declared.refusal.Place.{Place}
use Rattle.rule_detections.specs.Holds.{Stands, ValueStands, Holds}
use Rattle.rule_detections.specs.declared.test.Test.{Test}
use Rattle.rule_detections.specs.declared.test.Test.TheVariants as tests
use Rattle.sig_strings.specs.Edits.{has_wildcard, plain_text}
use Rattle.sig_strings.specs.Fits.{Fits}
use Rattle.sig_strings.specs.declared.part.Part.{Part}
use Rattle.modifier_values.specs.Numbers.{is_whole}
use Rattle.modifier_values.proofs.Numbers.{whole_tests}
use Rattle.rule_lowering.specs.TreeOf.{leaf_op, text_test, whole_test, leaf_test, leaf_if_any}
use Rattle.rule_lowering.specs.WholeNumbers.{written_number}
use Rattle.rule_lowering.proofs.Decimals.{is_low, characters, no_wildcard, own_text, low_decimal, low_text}
use Rattle.rule_model.proofs.Iffs.{iff_same, iff_then, iff_back, iff_either, some_same}
use Rattle.rule_lowering.proofs.Written.{same_number, written_is, written_gives}

-- ---- lists whose elements are known

pub some_each : {A : Type 0} (K P Q : A → Type 0) → ((x : A) → K x → P x ↔ Q x) → (xs : List A) → EachOf K xs → SomeOf P xs ↔ SomeOf Q xs
some_each K P Q same [] known = iff_same
some_each K P Q same (x ∷ xs) known = iff_either (same x known.0) (some_each K P Q same xs known.1)

none_of : {A : Type 0} (K P : A → Type 0) → ((x : A) → K x → P x → ⊥) → (xs : List A) → EachOf K xs → SomeOf P xs → ⊥
none_of K P no_such [] known h = h
none_of K P no_such (x ∷ xs) known h = elim h [ inl e ↦ no_such x known.0 e | inr e ↦ none_of K P no_such xs known.1 e ]

nothing : {A : Type 0} → (A → ⊥) → ⊥ ↔ A
nothing h = ((λ e. absurd e), h)

-- ---- tests that a leaf can ask

-- a network stands in no leaf
abbrev pub IsLeafTest : Test → Type 0
IsLeafTest tests.Absent = ⊤
IsLeafTest (tests.Exists there) = ⊤
IsLeafTest (tests.Fits parts cased) = ⊤
IsLeafTest (tests.Equals n) = ⊤
IsLeafTest (tests.Inside n) = ⊥
IsLeafTest (tests.Compare op n) = ⊤
IsLeafTest (tests.SameAs name) = ⊤
IsLeafTest (tests.Finds text flags) = ⊤

-- ---- numbers that stand so to another

stands_same : (op : Op) (n own : ℤ) → leaves.Stands (leaf_op op) own n ↔ Stands op n own
stands_same ops.Lt n own = iff_same
stands_same ops.Lte n own = iff_same
stands_same ops.Gt n own = iff_same
stands_same ops.Gte n own = iff_same

value_stands : (op : Op) (n : ℤ) (v : Value) → leaves.ValueStands (leaf_op op) n v ↔ ValueStands op n v
value_stands op n (values.Text text) = iff_same
value_stands op n (values.Whole own) = stands_same op n own

-- fields of texts and addresses have no number
no_number : (kind : FieldKind) → (kind ≡ kinds.Whole → ⊥) → (m : ℤ) → IsOfKind kind (values.Whole m) → ⊥
no_number kinds.Text other m known = known
no_number kinds.Whole other m known = other refl
no_number kinds.Address other m known = known

none_stands : (kind : FieldKind) → (kind ≡ kinds.Whole → ⊥) → (op : Op) (n : ℤ) (v : Value) → IsOfKind kind v → ValueStands op n v → ⊥
none_stands kind other op n (values.Text text) known stands = stands
none_stands kind other op n (values.Whole m) known stands = no_number kind other m known

-- ---- a leaf that may be missing

abbrev pub Passes : List (List Value) → Option LeafTest → List Value → Type 0
Passes row None all = ⊥
Passes row (Some test) all = TestHolds row test all

pub leaf_holds : (row : List (List Value)) (place : Place) (field : ℕ) (test : Option LeafTest)
    → TreeHolds row (leaf_if_any place field test) ↔ Passes row test (field_values row field)
leaf_holds row place field None = iff_same
leaf_holds row place field (Some test) = iff_same

module _
    (plain_cased : (parts : List Part) (text : List ℕ) → has_wildcard parts ≡ false → Fits parts text true ↔ (text ≡ plain_text parts))
    (plain_folded : (parts : List Part) (text : List ℕ) → has_wildcard parts ≡ false → Fits parts text false ↔ (folded text ≡ folded (plain_text parts)))
    (row : List (List Value)) (fields : List Field) (named : List ℕ → List Value)
    (named_same : (name : List ℕ) → field_values row (number_of fields name) ≡ named name) where
  -- the field of a name by its number
  same_means : (name : List ℕ) (all : List Value)
      → SomeOf (λ v. SomeOf (AreSame v) (field_values row (number_of fields name))) all ↔ SomeOf (λ v. SomeOf (AreSame v) (named name)) all
  same_means name all =
      subst (λ (others : List Value). SomeOf (λ v. SomeOf (AreSame v) (field_values row (number_of fields name))) all ↔ SomeOf (λ v. SomeOf (AreSame v) others) all)
      (named_same name) iff_same

  -- ---- fields of texts and addresses

  -- where a pattern of characters alone fits, without regard to case, the texts that are its own after folding
  decimal_means : (low text : List ℕ) → list_all is_low low ≡ true → Fits (characters low) text false ↔ (text ≡ low)
  decimal_means low text lows =
      let own = plain_folded (characters low) text (no_wildcard low) in (
        (λ h. low_text text low lows (own.0 h ∙ ap folded (own_text low))),
        (λ h. own.1 (ap folded h ∙ ap folded (sym (own_text low)))),
      )

  text_means : (kind : FieldKind) → (kind ≡ kinds.Whole → ⊥) → (test : Test) (all : List Value) → IsLeafTest test → EachOf (IsOfKind kind) all
      → Passes row (text_test fields test) all ↔ Holds named test all
  text_means kind other tests.Absent all plain known = iff_same
  text_means kind other (tests.Exists true) all plain known = iff_same
  text_means kind other (tests.Exists false) all plain known = iff_same
  text_means kind other (tests.Fits parts cased) all plain known = iff_same
  text_means kind other (tests.Inside n) all plain known = absurd plain
  text_means kind other (tests.Equals n) all plain known =
      some_same (λ v. Fits (characters (signed_decimal n)) (value_text v) false) (λ v. value_text v ≡ signed_decimal n)
      (λ v. decimal_means (signed_decimal n) (value_text v) (low_decimal n)) all
  text_means kind other (tests.Compare op n) all plain known = nothing (none_of (IsOfKind kind) (ValueStands op n) (none_stands kind other op n) all known)
  text_means kind other (tests.SameAs name) all plain known = same_means name all
  text_means kind other (tests.Finds text flags) all plain known = iff_same

  -- ---- fields of whole numbers

  abbrev AreWhole : List Value → Type 0
  AreWhole all = EachOf (IsOfKind kinds.Whole) all

  -- a pattern without a wildcard fits the decimals that are its text, with or without regard to case
  pattern_fits : (parts : List Part) (cased : Bool) (low : List ℕ) → list_all is_low low ≡ true → has_wildcard parts ≡ false
      → Fits parts low cased ↔ (low ≡ plain_text parts)
  pattern_fits parts true low lows plain = plain_cased parts low plain
  pattern_fits parts false low lows plain =
      iff_then (plain_folded parts low plain) ((λ e. sym (low_text (plain_text parts) low lows (sym e))), (λ e. ap folded e))

  value_fits : (parts : List Part) (cased : Bool) (n : ℤ) → has_wildcard parts ≡ false → plain_text parts ≡ signed_decimal n
      → (v : Value) → IsOfKind kinds.Whole v → (value_text v ≡ signed_decimal n) ↔ Fits parts (value_text v) cased
  value_fits parts cased n plain is (values.Text text) whole = absurd whole
  value_fits parts cased n plain is (values.Whole m) whole =
      iff_then ((λ e. e ∙ sym is), (λ e. e ∙ is)) (iff_back (pattern_fits parts cased (signed_decimal m) (low_decimal m) plain))

  no_value_fits : (parts : List Part) (cased : Bool) → has_wildcard parts ≡ false → written_number (plain_text parts) ≡ None
      → (v : Value) → IsOfKind kinds.Whole v → Fits parts (value_text v) cased → ⊥
  no_value_fits parts cased plain none (values.Text text) whole fits = whole
  no_value_fits parts cased plain none (values.Whole m) whole fits =
      let is : signed_decimal m ≡ plain_text parts = (pattern_fits parts cased (signed_decimal m) (low_decimal m) plain).0 fits in
      let some = written_gives (plain_text parts) m (sym is) whole in
      absurd (cc)

  number_means : (parts : List Part) (cased : Bool) (number : Option ℤ) → has_wildcard parts ≡ false → written_number (plain_text parts) ≡ number
      → (all : List Value) → AreWhole all → Passes row (option_map leaf_tests.Equals number) all ↔ SomeOf (λ v. Fits parts (value_text v) cased) all
  number_means parts cased None plain is all whole =
      nothing (none_of (IsOfKind kinds.Whole) (λ v. Fits parts (value_text v) cased) (no_value_fits parts cased plain is) all whole)
  number_means parts cased (Some n) plain is all whole =
      some_each (IsOfKind kinds.Whole) (λ v. value_text v ≡ signed_decimal n) (λ v. Fits parts (value_text v) cased)
      (value_fits parts cased n plain (written_is (plain_text parts) n is).0) all whole

  fits_means : (parts : List Part) (cased : Bool) (all : List Value) → AreWhole all
      → Passes row (whole_test fields (tests.Fits parts cased)) all ↔ SomeOf (λ v. Fits parts (value_text v) cased) all
  fits_means parts cased all whole = by (has_wildcard parts) refl where
    by : (b : Bool) → has_wildcard parts ≡ b
        → Passes row (if b then Some (leaf_tests.Fits parts cased) else option_map leaf_tests.Equals (written_number (plain_text parts))) all
        ↔ SomeOf (λ v. Fits parts (value_text v) cased) all
    by true is = iff_same
    by false is = number_means parts cased (written_number (plain_text parts)) is refl all whole

  no_value_is : (n : ℤ) → is_whole n ≡ false → (v : Value) → IsOfKind kinds.Whole v → value_text v ≡ signed_decimal n → ⊥
  no_value_is n out (values.Text text) whole e = whole
  no_value_is n out (values.Whole m) whole e =
      let same = same_number m n whole e in
      let fits = whole_tests m whole in
      let test : is_whole n ≡ true = ap is_whole (sym same) ∙ fits in
      absurd (cc)

  equals_means : (n : ℤ) (all : List Value) → AreWhole all → Passes row (whole_test fields (tests.Equals n)) all ↔ SomeOf (λ v. value_text v ≡ signed_decimal n) all
  equals_means n all whole = by (is_whole n) refl where
    by : (b : Bool) → is_whole n ≡ b → Passes row (option_map leaf_tests.Equals (if b then Some n else None)) all ↔ SomeOf (λ v. value_text v ≡ signed_decimal n) all
    by true is = iff_same
    by false is = nothing (none_of (IsOfKind kinds.Whole) (λ v. value_text v ≡ signed_decimal n) (no_value_is n is) all whole)

  whole_means : (test : Test) (all : List Value) → IsLeafTest test → AreWhole all → Passes row (whole_test fields test) all ↔ Holds named test all
  whole_means tests.Absent all plain whole = iff_same
  whole_means (tests.Exists true) all plain whole = iff_same
  whole_means (tests.Exists false) all plain whole = iff_same
  whole_means (tests.Fits parts cased) all plain whole = fits_means parts cased all whole
  whole_means (tests.Equals n) all plain whole = equals_means n all whole
  whole_means (tests.Inside n) all plain whole = absurd plain
  whole_means (tests.Compare op n) all plain whole = some_same (leaves.ValueStands (leaf_op op) n) (ValueStands op n) (value_stands op n) all
  whole_means (tests.SameAs name) all plain whole = same_means name all
  whole_means (tests.Finds text flags) all plain whole = iff_same

  pub test_means : (kind : FieldKind) (test : Test) (all : List Value) → IsLeafTest test → EachOf (IsOfKind kind) all
      → Passes row (leaf_test fields kind test) all ↔ Holds named test all
  test_means kinds.Text test all plain known = text_means kinds.Text (λ e. absurd cc) test all plain known
  test_means kinds.Whole test all plain known = whole_means test all plain known
  test_means kinds.Address test all plain known = text_means kinds.Address (λ e. absurd cc) test all plain known
