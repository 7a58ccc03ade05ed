-- Whole rules that fit a schema: each item passes, and each test stands on a field of a kind that takes it.
use Rattle.std.proofs.Common.{ℕ, suc, ◌≡◌, ◌↔◌, ◌+◌, ◌<◌, ◌≤◌, nat_lt, cond, arith, Bool, true, false, ◌||◌, ◌&&◌, not, if◌then◌else◌, List, [], ◌∷◌, ◌++◌, length, refl, sym, ap, ◌∙◌}
use Rattle.std.specs.Prelude.{Some, None, unwrap_or, ⊤}
use Rattle.std.specs.List.{flat_map, list_any, list_all, position_or_len}
use Rattle.std.proofs.lemmas.Bool.Decides.{nat_tests}
use Rattle.std.specs.Str.{bytes_eq}
use Rattle.std.proofs.lemmas.Bool.{or_left, or_right}
use Rattle.backend_core.specs.FieldAt.{kind_at}
use Rattle.event_schema.specs.Events.{IsWholeNumber}
use Rattle.event_schema.specs.Lists.{EachOf}
use Rattle.event_schema.specs.declared.schema.Field.{Field}
use Rattle.event_schema.specs.declared.schema.FieldKind.{FieldKind}
use Rattle.event_schema.specs.declared.schema.FieldKind.TheVariants as kinds
use Rattle.event_schema.specs.declared.schema.Schema.{Schema}
use Rattle.schema_index.specs.Numbers.{number_of}
use Rattle.schema_index.proofs.Found.{field_within}
use Rattle.modifier_words.specs.declared.modifier.Joined.TheVariants.{All}
use Rattle.rule_detections.specs.Whole.{IsWholeValue, IsWholeDetection}
use Rattle.rule_detections.specs.declared.detection.Detection.{Detection}
use Rattle.rule_detections.specs.declared.item.Fields.TheVariants.{Names}
use Rattle.rule_detections.specs.declared.item.Item.{Item}
use Rattle.rule_lowering.proofs.Found.{each_name, each_passes}
use Rattle.rule_model.proofs.Iffs.{iff_same, over_flat, each_append, each_then}
use Rattle.rule_model.specs.Plain.{PlainRule}
use Rattle.rule_model.specs.Whole.{IsWhole}
use Rattle.rule_schema.specs.Inferred.{is_field, fields_refusal, item_line, fit_refusal, items_of, open_line, open_refusal}
use Rattle.rule_schema.specs.Kinds.{asks_whole, asks_address, some_asks, is_whole, is_address, is_field_of, are_alike, are_of_kinds}
use Rattle.sig_base.specs.declared.refusal.Place.{Place}
use Rattle.sig_base.specs.Judged.{must, first}
use Rattle.rule_detections.specs.PlainTests.{IsPlainNetwork, IsPlainTest, ArePlainTests, IsPatternTest}
use Rattle.rule_detections.specs.References.{reference_of, references_in, listed}
use Rattle.rule_detections.specs.declared.test.Test.{Test}
use Rattle.rule_detections.specs.declared.test.Test.TheVariants as tests

pub each_both : {A : Type 0} (P Q : A → Type 0) (xs : List A) → EachOf P xs → EachOf Q xs → EachOf (λ x. P x × Q x) xs
each_both P Q [] p q = tt
each_both P Q (x ∷ xs) p q = ((p.0, q.0), each_both P Q xs p.1 q.1)

-- ---- items that pass

both_hold : (place : Place) (a b : Bool) → first (must 81 place a ∷ must 82 place b ∷ []) ≡ None → (a ≡ true) × (b ≡ true)
both_hold place true true h = (refl, refl)
both_hold place true false h = absurd cc
both_hold place false b h = absurd cc

-- an item's names, and those that its tests compare them with, are fields of the kinds that its tests stand on
abbrev pub AreFitting : List Field → List (List Test) → List (List ℕ) → Type 0
AreFitting fields values names = (list_all (is_field fields) (names ++ references_in values) ≡ true) × (are_of_kinds fields values names ≡ true)

pub names_fit : (fields : List Field) (place : Place) (values : List (List Test)) (names : List (List ℕ)) → fields_refusal fields place values (Names names) ≡ None
    → AreFitting fields values names
names_fit fields place values names h = both_hold place (list_all (is_field fields) (names ++ references_in values)) (are_of_kinds fields values names) h

-- what holds of each item of detections
pub items_each : (P : Item → Type 0) (ds : List Detection) → EachOf P (items_of ds) → EachOf (λ d. EachOf (λ items. EachOf P items) d.alternatives) ds
items_each P ds h =
    (over_flat All (λ d. flat_map (λ items. items) d.alternatives) P (λ d. EachOf (λ items. EachOf P items) d.alternatives)
    (λ d. over_flat All (λ items. items) P (λ items. EachOf P items) (λ items. iff_same) d.alternatives) ds).0 h

module _ (fields : List Field) where
  abbrev pub ItemPasses : Item → Type 0
  ItemPasses i = item_line fields i ≡ None

  abbrev pub DetectionPasses : Detection → Type 0
  DetectionPasses d = EachOf (λ items. EachOf ItemPasses items) d.alternatives

  abbrev pub Fine : List Detection → Type 0
  Fine ds = EachOf (λ d. IsWholeDetection d × DetectionPasses d) ds

  -- it fits the fields, and no placeholder of it stands open
  abbrev pub ItemIsReady : Item → Type 0
  ItemIsReady i = (item_line fields i ≡ None) × (open_line i ≡ None)

  abbrev pub DetectionIsReady : Detection → Type 0
  DetectionIsReady d = EachOf (λ items. EachOf ItemIsReady items) d.alternatives

  abbrev pub AreReady : List Detection → Type 0
  AreReady ds = EachOf (λ d. IsWholeDetection d × DetectionIsReady d) ds

pub rule_fine : (schema : Schema) (rule : PlainRule) → IsWhole rule → fit_refusal schema rule ≡ None → Fine schema.fields rule.detections
rule_fine schema rule w fits =
    each_both IsWholeDetection (DetectionPasses schema.fields) rule.detections w.detections
    (items_each (ItemPasses schema.fields) rule.detections (each_passes (item_line schema.fields) (items_of rule.detections) fits))

pub rule_ready : (schema : Schema) (rule : PlainRule) → IsWhole rule → open_refusal rule ≡ None → fit_refusal schema rule ≡ None → AreReady schema.fields rule.detections
rule_ready schema rule w filled fits =
    each_both IsWholeDetection (DetectionIsReady schema.fields) rule.detections w.detections
    (items_each (ItemIsReady schema.fields) rule.detections
    (each_both (λ i. item_line schema.fields i ≡ None) (λ i. open_line i ≡ None) (items_of rule.detections)
    (each_passes (item_line schema.fields) (items_of rule.detections) fits) (each_passes open_line (items_of rule.detections) filled)))

-- ---- tests and the kinds of their fields

-- a field of this kind is compared with a field, where both are of whole numbers or none is
abbrev pub IsLike : List Field → FieldKind → List ℕ → Type 0
IsLike fields kind name = (number_of fields name < length fields) × ((kind ≡ kinds.Whole) ↔ (kind_at fields (number_of fields name) ≡ kinds.Whole))

-- a network is one of 32 bits, asked for at a field of addresses
abbrev pub IsMet : List Field → FieldKind → Test → Type 0
IsMet fields kind tests.Absent = ⊤
IsMet fields kind (tests.Exists there) = ⊤
IsMet fields kind (tests.Fits parts cased) = ⊤
IsMet fields kind (tests.Equals n) = ⊤
IsMet fields kind (tests.Inside n) = IsPlainNetwork n × (kind ≡ kinds.Address)
IsMet fields kind (tests.Compare op n) = IsWholeNumber n
IsMet fields kind (tests.SameAs name) = IsLike fields kind name
IsMet fields kind (tests.Finds text flags) = ⊤

abbrev pub AreMet : List Field → FieldKind → List Test → Type 0
AreMet fields kind ts = EachOf (IsMet fields kind) ts

module _ (fields : List Field) where
  pattern_met : (kind : FieldKind) (test : Test) → IsPatternTest test → IsMet fields kind test
  pattern_met kind tests.Absent h = tt
  pattern_met kind (tests.Exists there) h = tt
  pattern_met kind (tests.Fits parts cased) h = tt
  pattern_met kind (tests.Equals n) h = tt
  pattern_met kind (tests.Inside n) h = absurd h
  pattern_met kind (tests.Compare op n) h = absurd h
  pattern_met kind (tests.SameAs name) h = absurd h
  pattern_met kind (tests.Finds text flags) h = tt

  pub patterns_met : (kind : FieldKind) (ts : List Test) → EachOf IsPatternTest ts → AreMet fields kind ts
  patterns_met kind [] h = tt
  patterns_met kind (t ∷ ts) h = (pattern_met kind t h.0, patterns_met kind ts h.1)

-- the name that a test compares with, as `references_in` lists it
abbrev one_named : Test → List (List ℕ)
one_named test = listed (reference_of test)

-- where addresses are asked for at fields of addresses alone, and each name that a test compares with is like the field
module _ (fields : List Field) (kind : FieldKind) where
  test_met : (test : Test) → IsPlainTest test → (asks_address test ≡ true → kind ≡ kinds.Address) → EachOf (IsLike fields kind) (one_named test) → IsMet fields kind test
  test_met tests.Absent plain asked like = tt
  test_met (tests.Exists there) plain asked like = tt
  test_met (tests.Fits parts cased) plain asked like = tt
  test_met (tests.Equals n) plain asked like = tt
  test_met (tests.Inside n) plain asked like = (plain, asked refl)
  test_met (tests.Compare op n) plain asked like = plain
  test_met (tests.SameAs name) plain asked like = like.0
  test_met (tests.Finds text flags) plain asked like = tt

  tests_met : (ts : List Test) → ArePlainTests ts → (list_any asks_address ts ≡ true → kind ≡ kinds.Address) → EachOf (IsLike fields kind) (flat_map one_named ts)
      → AreMet fields kind ts
  tests_met [] plain asked like = tt
  tests_met (t ∷ ts) plain asked like =
      let parts = (each_append (IsLike fields kind) (one_named t) (flat_map one_named ts)).0 like in (
        test_met t plain.0 (λ is. asked (or_left (asks_address t) (list_any asks_address ts) is)) parts.0,
        tests_met ts plain.1 (λ is. asked (or_right (asks_address t) (list_any asks_address ts) is)) parts.1,
      )

  values_met : (values : List (List Test)) → EachOf IsWholeValue values → (some_asks asks_address values ≡ true → kind ≡ kinds.Address)
      → EachOf (IsLike fields kind) (flat_map (λ ts. flat_map one_named ts) values) → EachOf (AreMet fields kind) values
  values_met [] whole asked like = tt
  values_met (ts ∷ values) whole asked like =
      let parts = (each_append (IsLike fields kind) (flat_map one_named ts) (flat_map (λ us. flat_map one_named us) values)).0 like in (
        tests_met ts whole.0.each (λ is. asked (or_left (list_any asks_address ts) (some_asks asks_address values) is)) parts.0,
        values_met values whole.1 (λ is. asked (or_right (list_any asks_address ts) (some_asks asks_address values) is)) parts.1,
      )

-- the place of the first field of a name, or the number of fields
abbrev place_of : List Field → List ℕ → ℕ
place_of fields name = position_or_len (λ (f : Field). bytes_eq f.name name) fields

step_most : (b : Bool) (n m : ℕ) → n ≤ m → cond (not b) (1 + n) 0 ≤ 1 + m
step_most true n m h = omega arith
step_most false n m h = omega (arith, h)

place_most : (fields : List Field) (name : List ℕ) → place_of fields name ≤ length fields
place_most [] name = omega arith
place_most (f ∷ fields) name = let step = step_most (bytes_eq f.name name) (place_of fields name) (length fields) (place_most fields name) in omega (arith, step)

or_length : (b : Bool) (n m : ℕ) → nat_lt n m ≡ b → n ≤ m → unwrap_or (cond b (Some n) None) m ≡ n
or_length true n m e h = refl
or_length false n m e h = grind (arith, nat_tests)

number_is : (fields : List Field) (name : List ℕ) → number_of fields name ≡ place_of fields name
number_is fields name = or_length (nat_lt (place_of fields name) (length fields)) (place_of fields name) (length fields) refl (place_most fields name)

-- a predicate of kinds that texts don't have is asked of the kind of a name's field
module _ (p : FieldKind → Bool) (texts : p kinds.Text ≡ false) where
  placed_kind : (fields : List Field) (name : List ℕ) → is_field_of p fields name ≡ p (kind_at fields (place_of fields name))
  placed_kind [] name = sym texts
  placed_kind (f ∷ fields) name = by (bytes_eq f.name name) (placed_kind fields name) where
    by : (b : Bool) → is_field_of p fields name ≡ p (kind_at fields (place_of fields name))
        → (if b then p f.kind else is_field_of p fields name) ≡ p (kind_at (f ∷ fields) (cond (not b) (1 + place_of fields name) 0))
    by true rest = refl
    by false rest =
        let next : 1 + place_of fields name ≡ suc (place_of fields name) = omega arith in
        rest ∙ sym (ap (λ k. p (kind_at (f ∷ fields) k)) next)

  kind_told : (fields : List Field) (name : List ℕ) → is_field_of p fields name ≡ p (kind_at fields (number_of fields name))
  kind_told fields name = placed_kind fields name ∙ sym (ap (λ k. p (kind_at fields k)) (number_is fields name))

is_kind : (kind : FieldKind) → is_address kind ≡ true → kind ≡ kinds.Address
is_kind kinds.Text h = absurd cc
is_kind kinds.Whole h = absurd cc
is_kind kinds.Address h = refl

whole_kind : (kind : FieldKind) → is_whole kind ≡ true → kind ≡ kinds.Whole
whole_kind kinds.Text h = absurd cc
whole_kind kinds.Whole h = refl
whole_kind kinds.Address h = absurd cc

each_of : {A : Type 0} {P : A → Type 0} → ((x : A) → P x) → (xs : List A) → EachOf P xs
each_of holds [] = tt
each_of holds (x ∷ xs) = (holds x, each_of holds xs)

each_pair : {A B : Type 0} (P : A → Type 0) (Q : B → Type 0) (R : A → B → Type 0) → ((x : A) (y : B) → P x → Q y → R x y)
    → (xs : List A) (ys : List B) → EachOf P xs → EachOf Q ys → EachOf (λ x. EachOf (R x) ys) xs
each_pair P Q R holds [] ys p q = tt
each_pair P Q R holds (x ∷ xs) ys p q = (each_then (λ y h. holds x y p.0 h) ys q, each_pair P Q R holds xs ys p.1 q)

-- the second and third of three
and_three : (a b c : Bool) → (a && b && c) ≡ true → (b ≡ true) × (c ≡ true)
and_three true true true h = (refl, refl)
and_three true true false h = absurd cc
and_three true false c h = absurd cc
and_three false b c h = absurd cc

was_false : (b : Bool) → not b ≡ true → b ≡ false
was_false true h = absurd cc
was_false false h = refl

module _ (fields : List Field) where
  abbrev kind_of : List ℕ → FieldKind
  kind_of name = kind_at fields (number_of fields name)

  -- ---- fields that are compared with others

  like : (name other : List ℕ) → number_of fields other < length fields → is_whole (kind_of name) ≡ is_whole (kind_of other) → IsLike fields (kind_of name) other
  like name other within same = (
    within,
    (
      (λ (e : kind_of name ≡ kinds.Whole). whole_kind (kind_of other) (sym same ∙ ap is_whole e)),
      (λ (e : kind_of other ≡ kinds.Whole). whole_kind (kind_of name) (same ∙ ap is_whole e)),
    ),
  )

  -- of whole numbers, or not
  abbrev IsSo : Bool → List ℕ → Type 0
  IsSo b name = is_whole (kind_of name) ≡ b

  abbrev IsThere : Bool → List ℕ → Type 0
  IsThere b name = (number_of fields name < length fields) × IsSo b name

  all_like : (b : Bool) (names others : List (List ℕ)) → EachOf (IsThere b) (names ++ others) → EachOf (λ name. EachOf (IsLike fields (kind_of name)) others) names
  all_like b names others h =
      let parts = (each_append (IsThere b) names others).0 h in
      each_pair (IsThere b) (IsThere b) (λ name other. IsLike fields (kind_of name) other)
      (λ name other own its. like name other its.0 (own.1 ∙ sym its.1)) names others parts.0 parts.1

  names_like : (names others : List (List ℕ)) → list_all (is_field fields) (names ++ others) ≡ true → are_alike fields names others ≡ true
      → EachOf (λ name. EachOf (IsLike fields (kind_of name)) others) names
  names_like names [] there alike = each_of (λ name. tt) names
  names_like names (other ∷ others) there alike = by (list_all (is_field_of is_whole fields) all) refl alike where
    all : List (List ℕ)
    all = names ++ other ∷ others

    within : EachOf (λ name. number_of fields name < length fields) all
    within = each_name (is_field fields) (field_within fields) all there

    by : (b : Bool) → list_all (is_field_of is_whole fields) all ≡ b
        → (b || list_all (λ name. not (is_field_of is_whole fields name)) all) ≡ true
        → EachOf (λ name. EachOf (IsLike fields (kind_of name)) (other ∷ others)) names
    by true is none =
        all_like true names (other ∷ others)
        (each_both (λ name. number_of fields name < length fields) (IsSo true) all within
        (each_name (is_field_of is_whole fields) (λ name own. sym (kind_told is_whole refl fields name) ∙ own) all is))
    by false is none =
        all_like false names (other ∷ others)
        (each_both (λ name. number_of fields name < length fields) (IsSo false) all within
        (each_name (λ name. not (is_field_of is_whole fields name))
        (λ name own. sym (kind_told is_whole refl fields name) ∙ was_false (is_field_of is_whole fields name) own) all none))

  -- ---- addresses

  names_asked : (values : List (List Test)) (names : List (List ℕ)) → (not (some_asks asks_address values) || list_all (is_field_of is_address fields) names) ≡ true
      → EachOf (λ name. some_asks asks_address values ≡ true → kind_of name ≡ kinds.Address) names
  names_asked values names h = by (some_asks asks_address values) refl h where
    by : (b : Bool) → some_asks asks_address values ≡ b → (not b || list_all (is_field_of is_address fields) names) ≡ true
        → EachOf (λ name. some_asks asks_address values ≡ true → kind_of name ≡ kinds.Address) names
    by true is each =
        each_name (is_field_of is_address fields)
        (λ name own asked. is_kind (kind_of name) (sym (kind_told is_address refl fields name) ∙ own)) names each
    by false is each = each_of (λ name asked. absurd (let both : true ≡ false = sym asked ∙ is in cc)) names

  all_met : (values : List (List Test)) → EachOf IsWholeValue values → (names : List (List ℕ))
      → EachOf (λ name. some_asks asks_address values ≡ true → kind_of name ≡ kinds.Address) names
      → EachOf (λ name. EachOf (IsLike fields (kind_of name)) (references_in values)) names → EachOf (λ name. EachOf (AreMet fields (kind_of name)) values) names
  all_met values whole [] asked like = tt
  all_met values whole (name ∷ names) asked like =
      (values_met fields (kind_of name) values whole asked.0 like.0, all_met values whole names asked.1 like.1)

  -- at each name of an item that fits, the tests of its values are met
  pub names_met : (values : List (List Test)) (names : List (List ℕ)) → EachOf IsWholeValue values → AreFitting fields values names
      → EachOf (λ name. EachOf (AreMet fields (kind_of name)) values) names
  names_met values names whole fits =
      let kinds_fit =
      and_three (not (some_asks asks_whole values) || list_all (is_field_of is_whole fields) names)
      (not (some_asks asks_address values) || list_all (is_field_of is_address fields) names) (are_alike fields names (references_in values)) fits.1 in
      all_met values whole names (names_asked values names kinds_fit.0) (names_like names (references_in values) fits.0 kinds_fit.1)
