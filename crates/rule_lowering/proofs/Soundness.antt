-- The tree of a whole rule that fits the schema is sound, where no placeholder stands open.
use Rattle.std.proofs.Common.{ℕ, zero, suc, ◌≡◌, ◌<◌, ◌≤◌, ◌-◌, ◌*◌, ◌^◌, ℤ, Bool, true, false, if◌then◌else◌, List, [], ◌∷◌, ◌++◌, length, map, refl, sym, subst, arith}
use Rattle.std.specs.Prelude.{Option, Some, None, option_map, ⊤}
use Rattle.std.specs.Fmt.{signed_decimal}
use Rattle.std.specs.List.{flat_map, list_all}
use Rattle.std.proofs.lemmas.Bool.{and_parts}
use Rattle.backend_core.specs.FieldAt.{kind_at}
use Rattle.backend_core.specs.Sound.{IsSoundPattern, IsSoundTest, AreTwo, IsSound, AreSound}
use Rattle.backend_core.specs.Trees.{Plain, all, any, negated, leaf, never, Plains, no_parts, a_part}
use Rattle.backend_core.specs.declared.tree.LeafTest.{LeafTest}
use Rattle.backend_core.specs.declared.tree.LeafTest.TheVariants as leaf_tests
use Rattle.event_schema.specs.Events.{IsPlainText, IsWholeNumber}
use Rattle.event_schema.specs.declared.schema.Field.{Field}
use Rattle.event_schema.specs.declared.schema.FieldKind.{FieldKind}
use Rattle.event_schema.specs.declared.schema.FieldKind.TheVariants as kinds
use Rattle.event_schema.specs.declared.schema.Schema.{Schema}
use Rattle.rule_schema.specs.Inferred.{is_field, fields_refusal, open_refusal, fit_refusal}
use Rattle.rule_detections.specs.References.{references_in}
use Rattle.event_schema.specs.Lists.{EachOf, HasElement}
use Rattle.rule_model.specs.Plain.{PlainRule}
use Rattle.rule_detections.specs.PlainTests.{IsPlainTest, IsPatternTest, is_filled_test}
use Rattle.modifier_values.specs.PlainPatterns.{IsDashedPattern, IsPlainPattern}
use Rattle.rule_detections.specs.Whole.{IsWholeValue, AreWholeFields, IsWholeItem, IsWholeAlternative, IsWholeDetection}
use Rattle.rule_model.specs.Whole.{IsWholeForm, AreSomeForms, AreWholeForms, IsWhole}
use Rattle.rule_detections.specs.declared.detection.Detection.{Detection}
use Rattle.rule_detections.specs.declared.item.Fields.{Fields}
use Rattle.rule_detections.specs.declared.item.Fields.TheVariants.{Keyword, Names}
use Rattle.rule_detections.specs.declared.item.Item.{Item}
use Rattle.sig_base.specs.declared.refusal.Place.{Place}
use Rattle.sig_conditions.specs.Formulas.{PlainFormula, FDetection, FNot, FAnd, FOr, PlainFormulas, no_forms, form}
use Rattle.modifier_words.specs.declared.form.Flags.{Flags}
use Rattle.modifier_words.specs.declared.modifier.Joined.{Joined}
use Rattle.modifier_words.specs.declared.modifier.Joined.TheVariants.{All, Any}
use Rattle.rule_detections.specs.declared.test.Test.{Test}
use Rattle.rule_detections.specs.declared.test.Test.TheVariants as tests
use Rattle.sig_strings.specs.Edits.{has_wildcard, plain_text}
use Rattle.modifier_windash.specs.Choices.{choices, before_each}
use Rattle.sig_encode.specs.Networks.{Net, pattern_count, patterns_of, told_octets}
use Rattle.std.proofs.Math.Nat.{pow-suc}
use Rattle.sig_strings.specs.declared.part.Part.{Part}
use Rattle.sig_strings.specs.declared.part.Part.TheVariants.{Char, One, Run, Dash, Hole}
use Rattle.rule_lowering.specs.Joining.{plains, listed, parts_of, tree_with, closed, join}
use Rattle.rule_lowering.specs.TreeOf.{text_test, whole_test, leaf_test, leaf_if_any, written_tree, written_tests, test_tree, value_tree, keyword_tree, number_tree, fields_tree, item_tree, alternative_tree, detection_tree, numbered_tree, form_tree, form_trees, tree_of}
use Rattle.schema_index.specs.Numbers.{number_of, searched}
use Rattle.modifier_values.specs.Expressions.{expression_text, IsPlainExpression}
use Rattle.modifier_values.specs.Numbers.{is_whole}
use Rattle.modifier_values.proofs.Numbers.{whole_holds}
use Rattle.rule_lowering.specs.WholeNumbers.{written_number}
use Rattle.rule_lowering.proofs.Decimals.{characters, own_text, characters_written, low_decimal, low_plain}
use Rattle.schema_index.proofs.Found.{field_within, searched_within}
use Rattle.rule_lowering.proofs.Fitted.{each_both, ItemIsReady, DetectionIsReady, AreReady, names_fit, rule_ready, IsLike, IsMet, AreMet, patterns_met, names_met}
use Rattle.rule_lowering.proofs.Found.{some_searched, must_holds, each_name}
use Rattle.rule_model.proofs.Iffs.{each_append}
use Rattle.rule_lowering.proofs.Written.{written_is}

-- ---- lists

each_with : {A B : Type 0} (P : A → Type 0) (Q : B → Type 0) (f : A → B) → ((x : A) → P x → Q (f x)) → (xs : List A) → EachOf P xs → EachOf Q (map f xs)
each_with P Q f holds [] h = tt
each_with P Q f holds (x ∷ xs) h = (holds x h.0, each_with P Q f holds xs h.1)

some_map : {A B : Type 0} (f : A → B) (xs : List A) → HasElement xs → HasElement (map f xs)
some_map f [] h = absurd h
some_map f (x ∷ xs) h = tt

each_true : {A : Type 0} (p : A → Bool) (xs : List A) → list_all p xs ≡ true → EachOf (λ x. p x ≡ true) xs
each_true p [] h = tt
each_true p (x ∷ xs) h = let both = and_parts (p x) (list_all p xs) h in (both.0, each_true p xs both.1)

some_append : {A : Type 0} (xs ys : List A) → HasElement xs → HasElement (xs ++ ys)
some_append [] ys h = absurd h
some_append (x ∷ xs) ys h = tt

-- ---- choices of dashes

some_choice : (parts : List Part) → HasElement (choices parts)
some_choice [] = tt
some_choice (Char c ∷ parts) = some_map (λ rest. Char c ∷ rest) (choices parts) (some_choice parts)
some_choice (One ∷ parts) = some_map (λ rest. One ∷ rest) (choices parts) (some_choice parts)
some_choice (Run ∷ parts) = some_map (λ rest. Run ∷ rest) (choices parts) (some_choice parts)
some_choice (Dash ∷ parts) =
    some_append (before_each (Char 45) (choices parts)) _ (some_map (λ rest. Char 45 ∷ rest) (choices parts) (some_choice parts))
some_choice (Hole name ∷ parts) = some_map (λ rest. Hole name ∷ rest) (choices parts) (some_choice parts)

-- patterns that can be written are sound
all_sound : (patterns : List (List Part)) → EachOf IsPlainPattern patterns → EachOf IsSoundPattern patterns
all_sound [] h = tt
all_sound (parts ∷ patterns) h = (record { written = h.0.written; plain = h.0.plain }, all_sound patterns h.1)

-- ---- patterns of networks

some_of_many : {A : Type 0} (xs : List A) → 1 ≤ length xs → HasElement xs
some_of_many [] h = absurd (omega arith)
some_of_many (x ∷ xs) h = tt

two_power : (k : ℕ) → 1 ≤ 2 ^ k
two_power zero = omega arith
two_power (suc k) = omega (arith, two_power k, pow-suc 2 k)

-- where the choices of a pattern without placeholders can be written, and so can the patterns of networks, which are counted, and
-- regular expressions with their flags
module _ (choices_plain : (parts : List Part) → IsDashedPattern parts → EachOf IsPlainPattern (choices parts))
    (networks_plain : (n : Net) → n.bits < 2 ^ 32 → n.prefix ≤ 32 → EachOf IsPlainPattern (patterns_of n))
    (networks_counted : (n : Net) → length (patterns_of n) ≡ pattern_count n)
    (expressions_plain : (flags : Flags) (text : List ℕ) → IsPlainText text → IsPlainText (expression_text flags text)) where
  some_network : (n : Net) → HasElement (patterns_of n)
  some_network n = some_of_many (patterns_of n) (omega (arith, networks_counted n, two_power (8 * told_octets n.prefix - n.prefix)))

  choices_sound : (parts : List Part) → IsDashedPattern parts → EachOf IsSoundPattern (choices parts)
  choices_sound parts h = all_sound (choices parts) (choices_plain parts h)

  -- ---- joining

  module _ (fields : List Field) where
    some_listed : (ts : Plains) → AreTwo ts → HasElement (listed ts)
    some_listed no_parts h = absurd h
    some_listed (a_part t ts) h = tt

    listed_sound : (ts : Plains) → AreSound fields ts → EachOf (IsSound fields) (listed ts)
    listed_sound no_parts h = tt
    listed_sound (a_part t ts) h = (h.0, listed_sound ts h.1)

    plains_sound : (ts : List Plain) → EachOf (IsSound fields) ts → AreSound fields (plains ts)
    plains_sound [] h = tt
    plains_sound (t ∷ ts) h = (h.0, plains_sound ts h.1)

    parts_sound : (j : Joined) (t : Plain) → IsSound fields t → HasElement (parts_of j t) × EachOf (IsSound fields) (parts_of j t)
    parts_sound All (all ts) h = (some_listed ts h.0, listed_sound ts h.1)
    parts_sound All (any ts) h = (tt, (h, tt))
    parts_sound All (negated t) h = (tt, (h, tt))
    parts_sound All (leaf l) h = (tt, (h, tt))
    parts_sound All never h = (tt, (h, tt))
    parts_sound Any (all ts) h = (tt, (h, tt))
    parts_sound Any (any ts) h = (some_listed ts h.0, listed_sound ts h.1)
    parts_sound Any (negated t) h = (tt, (h, tt))
    parts_sound Any (leaf l) h = (tt, (h, tt))
    parts_sound Any never h = (tt, (h, tt))

    flat_sound : (j : Joined) (ts : List Plain) → EachOf (IsSound fields) ts → EachOf (IsSound fields) (flat_map (parts_of j) ts)
    flat_sound j [] h = tt
    flat_sound j (t ∷ ts) h =
        (each_append (IsSound fields) (parts_of j t) (flat_map (parts_of j) ts)).1 ((parts_sound j t h.0).1, flat_sound j ts h.1)

    some_flat : (j : Joined) (ts : List Plain) → HasElement ts → EachOf (IsSound fields) ts → HasElement (flat_map (parts_of j) ts)
    some_flat j [] s h = absurd s
    some_flat j (t ∷ ts) s h = some_append (parts_of j t) (flat_map (parts_of j) ts) (parts_sound j t h.0).0

    with_sound : (j : Joined) (ts : Plains) → AreTwo ts → AreSound fields ts → IsSound fields (tree_with j ts)
    with_sound All ts two h = (two, h)
    with_sound Any ts two h = (two, h)

    closed_sound : (j : Joined) (ts : List Plain) → HasElement ts → EachOf (IsSound fields) ts → IsSound fields (closed j ts)
    closed_sound j [] s h = absurd s
    closed_sound j (t ∷ []) s h = h.0
    closed_sound j (t ∷ u ∷ ts) s h = with_sound j (plains (t ∷ u ∷ ts)) tt (plains_sound (t ∷ u ∷ ts) h)

    join_sound : (j : Joined) (ts : List Plain) → HasElement ts → EachOf (IsSound fields) ts → IsSound fields (join j ts)
    unfolding join
    join_sound j ts s h = closed_sound j (flat_map (parts_of j) ts) (some_flat j ts s h) (flat_sound j ts h)

    join_map_sound : {A : Type 0} (P : A → Type 0) (j : Joined) (f : A → Plain) → ((x : A) → P x → IsSound fields (f x))
        → (xs : List A) → HasElement xs → EachOf P xs → IsSound fields (join j (map f xs))
    join_map_sound P j f holds xs s h = join_sound j (map f xs) (some_map f xs s) (each_with P (IsSound fields) f holds xs h)

    -- ---- values

    -- what a language can say of a field of this kind: patterns have no dash places any more
    abbrev IsWrittenTest : FieldKind → Test → Type 0
    IsWrittenTest kind tests.Absent = ⊤
    IsWrittenTest kind (tests.Exists there) = ⊤
    IsWrittenTest kind (tests.Fits parts cased) = IsSoundPattern parts
    IsWrittenTest kind (tests.Equals n) = ⊤
    IsWrittenTest kind (tests.Inside n) = ⊤
    IsWrittenTest kind (tests.Compare op n) = IsWholeNumber n
    IsWrittenTest kind (tests.SameAs name) = IsLike fields kind name
    IsWrittenTest kind (tests.Finds text flags) = IsPlainExpression flags text

    decimal_sound : (low : List ℕ) → IsPlainText low → IsSoundPattern (characters low)
    decimal_sound low h = record { written = characters_written low; plain = subst IsPlainText (sym (own_text low)) h }

    abbrev IsSoundIfAny : FieldKind → Option LeafTest → Type 0
    IsSoundIfAny kind None = ⊤
    IsSoundIfAny kind (Some test) = IsSoundTest fields kind test

    -- of a field that isn't one of whole numbers
    text_sound : (kind : FieldKind) → (kind ≡ kinds.Whole → ⊥) → (test : Test) → IsWrittenTest kind test → IsSoundIfAny kind (text_test fields test)
    text_sound kind other tests.Absent h = tt
    text_sound kind other (tests.Exists true) h = tt
    text_sound kind other (tests.Exists false) h = tt
    text_sound kind other (tests.Fits parts cased) h = (h, (λ is. absurd (other is)))
    text_sound kind other (tests.Equals n) h =
        (decimal_sound (signed_decimal n) (low_plain (signed_decimal n) (low_decimal n)), (λ is. absurd (other is)))
    text_sound kind other (tests.Inside n) h = tt
    text_sound kind other (tests.Compare op n) h = tt
    text_sound kind other (tests.SameAs name) h = h
    text_sound kind other (tests.Finds text flags) h = (h.0, expressions_plain flags text h.1)

    written_sound : (number : Option ℤ) → ((n : ℤ) → number ≡ Some n → IsWholeNumber n) → IsSoundIfAny kinds.Whole (option_map leaf_tests.Equals number)
    written_sound None whole = tt
    written_sound (Some n) whole = (refl, whole n refl)

    pattern_sound : (parts : List Part) (cased : Bool) → IsSoundPattern parts → IsSoundIfAny kinds.Whole (whole_test fields (tests.Fits parts cased))
    pattern_sound parts cased h = by (has_wildcard parts) refl where
      by : (b : Bool) → has_wildcard parts ≡ b
          → IsSoundIfAny kinds.Whole (if b then Some (leaf_tests.Fits parts cased) else option_map leaf_tests.Equals (written_number (plain_text parts)))
      by true is = (h, (λ same. is))
      by false is = written_sound (written_number (plain_text parts)) (λ n e. (written_is (plain_text parts) n e).1)

    number_sound : (n : ℤ) → IsSoundIfAny kinds.Whole (whole_test fields (tests.Equals n))
    number_sound n = by (is_whole n) refl where
      by : (b : Bool) → is_whole n ≡ b → IsSoundIfAny kinds.Whole (option_map leaf_tests.Equals (if b then Some n else None))
      by true is = (refl, whole_holds n is)
      by false is = tt

    whole_sound : (test : Test) → IsWrittenTest kinds.Whole test → IsSoundIfAny kinds.Whole (whole_test fields test)
    whole_sound tests.Absent h = tt
    whole_sound (tests.Exists true) h = tt
    whole_sound (tests.Exists false) h = tt
    whole_sound (tests.Fits parts cased) h = pattern_sound parts cased h
    whole_sound (tests.Equals n) h = number_sound n
    whole_sound (tests.Inside n) h = tt
    whole_sound (tests.Compare op n) h = (refl, h)
    whole_sound (tests.SameAs name) h = h
    whole_sound (tests.Finds text flags) h = (h.0, expressions_plain flags text h.1)

    kind_sound : (kind : FieldKind) (test : Test) → IsWrittenTest kind test → IsSoundIfAny kind (leaf_test fields kind test)
    kind_sound kinds.Text test h = text_sound kinds.Text (λ is. absurd (cc)) test h
    kind_sound kinds.Whole test h = whole_sound test h
    kind_sound kinds.Address test h = text_sound kinds.Address (λ is. absurd (cc)) test h

    leaf_sound : (place : Place) (n : ℕ) → n < length fields → (test : Option LeafTest) → IsSoundIfAny (kind_at fields n) test
        → IsSound fields (leaf_if_any place n test)
    leaf_sound place n within None h = tt
    leaf_sound place n within (Some test) h = (within, h)

    abbrev kind : ℕ → FieldKind
    kind n = kind_at fields n

    written_tree_sound : (place : Place) (n : ℕ) → n < length fields → (test : Test) → IsWrittenTest (kind n) test
        → IsSound fields (written_tree fields place (kind n) n test)
    written_tree_sound place n within test h = leaf_sound place n within (leaf_test fields (kind n) test) (kind_sound (kind n) test h)

    some_written : (test : Test) → HasElement (written_tests test)
    some_written tests.Absent = tt
    some_written (tests.Exists there) = tt
    some_written (tests.Fits parts cased) = some_map (λ chosen. tests.Fits chosen cased) (choices parts) (some_choice parts)
    some_written (tests.Equals n) = tt
    some_written (tests.Inside n) = some_map (λ pattern. tests.Fits pattern false) (patterns_of n) (some_network n)
    some_written (tests.Compare op n) = tt
    some_written (tests.SameAs name) = tt
    some_written (tests.Finds text flags) = tt

    each_written : (kind : FieldKind) (test : Test) → IsPlainTest test → is_filled_test test ≡ true → IsMet fields kind test
        → EachOf (IsWrittenTest kind) (written_tests test)
    each_written kind tests.Absent h filled met = (tt, tt)
    each_written kind (tests.Exists there) h filled met = (tt, tt)
    each_written kind (tests.Fits parts cased) h filled met =
        each_with IsSoundPattern (IsWrittenTest kind) (λ chosen. tests.Fits chosen cased) (λ chosen sound. sound) (choices parts)
        (choices_sound parts (record { filled = filled; plain = h }))
    each_written kind (tests.Equals n) h filled met = (tt, tt)
    each_written kind (tests.Inside n) h filled met =
        each_with IsSoundPattern (IsWrittenTest kind) (λ pattern. tests.Fits pattern false) (λ pattern sound. sound) (patterns_of n)
        (all_sound (patterns_of n) (networks_plain n h.0 h.1))
    each_written kind (tests.Compare op n) h filled met = (h, tt)
    each_written kind (tests.SameAs name) h filled met = (met, tt)
    each_written kind (tests.Finds text flags) h filled met = (h, tt)

    -- a test that a rule without placeholders may ask
    abbrev IsFilledTest : Test → Type 0
    IsFilledTest test = IsPlainTest test × (is_filled_test test ≡ true)

    abbrev IsFilledValue : List Test → Type 0
    IsFilledValue ts = IsWholeValue ts × (list_all is_filled_test ts ≡ true)

    wholes : (values : List (List Test)) → EachOf IsFilledValue values → EachOf IsWholeValue values
    wholes [] h = tt
    wholes (ts ∷ values) h = (h.0.0, wholes values h.1)

    -- of a field of a kind that takes it
    abbrev IsFitTest : FieldKind → Test → Type 0
    IsFitTest kind test = IsFilledTest test × IsMet fields kind test

    test_sound : (place : Place) (n : ℕ) → n < length fields → (test : Test) → IsFitTest (kind n) test → IsSound fields (test_tree fields place (kind n) n test)
    test_sound place n within test h =
        join_map_sound (IsWrittenTest (kind n)) Any (written_tree fields place (kind n) n) (written_tree_sound place n within) (written_tests test)
        (some_written test) (each_written (kind n) test h.0.0 h.0.1 h.1)

    abbrev IsFitValue : FieldKind → List Test → Type 0
    IsFitValue kind ts = IsFilledValue ts × AreMet fields kind ts

    value_sound : (place : Place) (n : ℕ) → n < length fields → (ts : List Test) → IsFitValue (kind n) ts → IsSound fields (value_tree fields place (kind n) n ts)
    value_sound place n within ts h =
        join_map_sound (IsFitTest (kind n)) Any (test_tree fields place (kind n) n)
        (test_sound place n within) ts h.0.0.some
        (each_both IsFilledTest (IsMet fields (kind n)) ts
        (each_both IsPlainTest (λ test. is_filled_test test ≡ true) ts h.0.0.each (each_true is_filled_test ts h.0.1)) h.1)

    values_sound : (place : Place) (j : Joined) (values : List (List Test)) → HasElement values → EachOf IsFilledValue values
        → (n : ℕ) → n < length fields → EachOf (AreMet fields (kind n)) values → IsSound fields (number_tree fields place j values n)
    values_sound place j values s h n within met =
        join_map_sound (IsFitValue (kind n)) j (value_tree fields place (kind n) n) (value_sound place n within) values s
        (each_both IsFilledValue (AreMet fields (kind n)) values h met)

    keyword_sound : (place : Place) → HasElement (searched fields) → (ts : List Test) → IsFilledValue ts × EachOf IsPatternTest ts
        → IsSound fields (keyword_tree fields place ts)
    keyword_sound place s ts h =
        join_map_sound (λ n. n < length fields) Any (λ n. value_tree fields place (kind n) n ts)
        (λ n within. value_sound place n within ts (h.0, patterns_met fields (kind n) ts h.1)) (searched fields) s (searched_within fields)

    -- ---- items

    names_within : (names others : List (List ℕ)) → list_all (is_field fields) (names ++ others) ≡ true → EachOf (λ name. number_of fields name < length fields) names
    names_within names others h =
        ((each_append (λ name. number_of fields name < length fields) names others).0 (each_name (is_field fields) (field_within fields) (names ++ others) h)).0

    fields_sound : (place : Place) (j : Joined) (values : List (List Test)) (fs : Fields) → AreWholeFields fs values → HasElement values → EachOf IsFilledValue values
        → fields_refusal fields place values fs ≡ None → IsSound fields (fields_tree fields place j values fs)
    fields_sound place j values Keyword w s h fits =
        join_map_sound (λ ts. IsFilledValue ts × EachOf IsPatternTest ts) j (keyword_tree fields place)
        (keyword_sound place (some_searched fields (must_holds 83 place _ fits))) values s
        (each_both IsFilledValue (λ ts. EachOf IsPatternTest ts) values h w)
    fields_sound place j values (Names names) w s h fits =
        let fit = names_fit fields place values names fits in
        join_map_sound (λ name. (number_of fields name < length fields) × EachOf (AreMet fields (kind (number_of fields name))) values) Any
        (λ name. number_tree fields place j values (number_of fields name))
        (λ name met. values_sound place j values s h (number_of fields name) met.0 met.1) names w.0
        (each_both (λ name. number_of fields name < length fields) (λ name. EachOf (AreMet fields (kind (number_of fields name))) values) names
        (names_within names (references_in values) fit.0) (names_met fields values names (wholes values h) fit))

    item_sound : (i : Item) → IsWholeItem i × ItemIsReady fields i → IsSound fields (item_tree fields i)
    item_sound i h =
        fields_sound i.place i.joined i.tests i.fields h.0.fields h.0.some
        (each_both IsWholeValue (λ ts. list_all is_filled_test ts ≡ true) i.tests h.0.each
        (each_true (list_all is_filled_test) i.tests (must_holds 98 i.place _ h.1.1))) h.1.0

    alternative_sound : (items : List Item) → IsWholeAlternative items × EachOf (ItemIsReady fields) items → IsSound fields (alternative_tree fields items)
    alternative_sound items h =
        join_map_sound (λ i. IsWholeItem i × ItemIsReady fields i) All (item_tree fields) item_sound items h.0.some
        (each_both IsWholeItem (ItemIsReady fields) items h.0.each h.1)

    detection_sound : (d : Detection) → IsWholeDetection d × DetectionIsReady fields d → IsSound fields (detection_tree fields d)
    detection_sound d h =
        join_map_sound (λ items. IsWholeAlternative items × EachOf (ItemIsReady fields) items) Any (alternative_tree fields) alternative_sound d.alternatives h.0.some
        (each_both IsWholeAlternative (λ items. EachOf (ItemIsReady fields) items) d.alternatives h.0.each h.1)

    -- ---- conditions

    numbered_sound : (ds : List Detection) → AreReady fields ds → (n : ℕ) → n < length ds → IsSound fields (numbered_tree fields ds n)
    numbered_sound [] h n within = absurd (omega arith)
    numbered_sound (d ∷ ds) h zero within = detection_sound d h.0
    numbered_sound (d ∷ ds) h (suc n) within = numbered_sound ds h.1 n (omega arith)

    mutual
      form_sound : (ds : List Detection) → AreReady fields ds → (f : PlainFormula) → IsWholeForm (length ds) f → IsSound fields (form_tree fields ds f)
      form_sound ds h (FDetection n) w = numbered_sound ds h n w
      form_sound ds h (FNot f) w = form_sound ds h f w
      form_sound ds h (FAnd fs) w = join_sound All (form_trees fields ds fs) (some_forms ds fs w) (some_forms_sound ds h fs w)
      form_sound ds h (FOr fs) w = join_sound Any (form_trees fields ds fs) (some_forms ds fs w) (some_forms_sound ds h fs w)

      some_forms_sound : (ds : List Detection) → AreReady fields ds → (fs : PlainFormulas) → AreSomeForms (length ds) fs → EachOf (IsSound fields) (form_trees fields ds fs)
      some_forms_sound ds h no_forms w = tt
      some_forms_sound ds h (form f fs) w = (form_sound ds h f w.0, forms_sound ds h fs w.1)

      forms_sound : (ds : List Detection) → AreReady fields ds → (fs : PlainFormulas) → AreWholeForms (length ds) fs → EachOf (IsSound fields) (form_trees fields ds fs)
      forms_sound ds h no_forms w = tt
      forms_sound ds h (form f fs) w = (form_sound ds h f w.0, forms_sound ds h fs w.1)

      some_forms : (ds : List Detection) (fs : PlainFormulas) → AreSomeForms (length ds) fs → HasElement (form_trees fields ds fs)
      some_forms ds no_forms w = absurd w
      some_forms ds (form f fs) w = tt

  pub tree_sound : (schema : Schema) (rule : PlainRule) → IsWhole rule → open_refusal rule ≡ None → fit_refusal schema rule ≡ None → IsSound schema.fields (tree_of schema rule)
  tree_sound schema rule w filled fits =
      let fields = schema.fields in
      let ds = rule.detections in
      let fine : AreReady fields ds = rule_ready schema rule w filled fits in
      join_map_sound fields (IsWholeForm (length ds)) Any (form_tree fields ds) (form_sound fields ds fine) rule.conditions w.some w.conditions
