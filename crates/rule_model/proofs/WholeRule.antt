-- A rule of a node that isn't refused, and whose texts are of scalar values, is whole.
use Rattle.std.proofs.Common.{ℕ, zero, suc, ◌≡◌, ◌/◌, ◌%◌, ◌<◌, ℤ, pos, negsuc, Bool, true, false, not, ◌||◌, ◌==◌, nat_lt, nat_le, if◌then◌else◌, List, [], ◌∷◌, length, map, refl, sym, ap, ◌∙◌, subst, arith}
use Rattle.std.specs.Prelude.{Option, Some, None, codes, filter, is_some}
use Rattle.std.specs.List.{AllZip, list_all, list_any}
use Rattle.std.specs.Str.{all_scalars, bytes_eq}
use Rattle.std.proofs.lemmas.Bool.{and_parts, and_from}
use Rattle.std.proofs.lemmas.Bool.Decides.{nat_tests}
use Rattle.std.proofs.Math.Utf8.{scalar}
use Rattle.sig_base.specs.declared.limits.Limits.{Limits}
use Rattle.sig_base.specs.declared.refusal.Place.{Place}
use Rattle.sig_base.specs.declared.refusal.Refusal.{Refusal}
use Rattle.modifier_words.specs.Chains.{chain_refusal}
use Rattle.sig_base.specs.Judged.{must, first}
use Rattle.rule_detections.specs.PlainTests.{ArePlainTests, IsPatternTest}
use Rattle.rule_detections.specs.TestsOf.{TestsOf, value_refusal}
use Rattle.yaml_tree.specs.Nodes.{place_of}
use Rattle.modifier_words.specs.Written.{Written}
use Rattle.rule_detections.specs.declared.test.Test.{Test}
use Rattle.yaml_tree.specs.Texts.{IsScalarText, HasScalarTexts, HaveScalarTexts, MembersHave}
use Rattle.yaml_tree.specs.Tree.{Scalar, null, truth, whole, text, Tree, scalar as scalar_node, list, map as tree_map, Elements, no_elements, element, Members, no_members, member, Member}
use Rattle.rule_model.specs.Conditions.{conditions_refusal}
use Rattle.rule_detections.specs.Detections.{alternative_refusal, IsAlternative, content_refusal, is_detection_key, is_no_condition, detection_refusal, IsDetection, detection_entries, is_identified, begins_with_timeframe, detections_refusal, AreDetections}
use Rattle.rule_head.specs.Heads.{head_checks}
use Rattle.rule_detections.specs.Items.{key_chain, shape_refusal, values_refusal, item_refusal, IsItem, bare_chain, keyword_refusal, IsKeyword}
use Rattle.rule_detections.specs.Keys.{pieces, name_in, words_in, is_keyword_key, is_item_key}
use Rattle.yaml_tree.specs.Nodes.{is_empty}
use Rattle.event_schema.specs.Lists.{EachOf, HasElement}
use Rattle.yaml_tree.specs.Nodes.{is_map, is_null, listed, entered, entries_in, parts_in, key_place, value_in, refused_by}
use Rattle.rule_model.specs.Plain.{PlainRule}
use Rattle.rule_model.specs.Rules.{rule_refusal, IsRule}
use Rattle.rule_head.specs.Sources.{source_refusal}
use Rattle.rule_detections.specs.Whole.{IsWholeItem, IsWholeAlternative, IsWholeDetection}
use Rattle.rule_model.specs.Whole.{IsWholeForm, IsWhole}
use Rattle.rule_detections.specs.declared.detection.Detection.{Detection}
use Rattle.rule_detections.specs.declared.item.Item.{Item}
use Rattle.rule_model.proofs.ConditionLists.{some_conditions, whole_conditions}
use Rattle.sig_base.proofs.Checks.{first_one, first_holds, must_holds, not_holds}
use Rattle.rule_model.proofs.RuleLemmas.{as_many}
use Rattle.rule_model.proofs.SomeRule.{two_hold, three_hold, four_hold, six_hold}
use Rattle.rule_detections.proofs.WholeItems.{whole_item, whole_keyword}
use Rattle.rule_detections.proofs.Zips.{zip_some}

-- what holds of the elements, none of which is refused, holds of what they are read as
each_read : {A B : Type 0} (R : A → B → Type 0) (P : A → Type 0) (Q : B → Type 0) (refusal : A → Option Refusal)
    → ((x : A) (y : B) → refusal x ≡ None → P x → R x y → Q y)
    → (xs : List A) (ys : List B) → first (map refusal xs) ≡ None → EachOf P xs → AllZip R xs ys → EachOf Q ys
each_read R P Q refusal f [] [] none each all = tt
each_read R P Q refusal f [] (y ∷ ys) none each all = absurd all
each_read R P Q refusal f (x ∷ xs) [] none each all = absurd all
each_read R P Q refusal f (x ∷ xs) (y ∷ ys) none each all =
    let parts = first_holds (refusal x) (map refusal xs) none in
    (f x y parts.0 each.0 all.0, each_read R P Q refusal f xs ys parts.1 each.1 all.1)

-- a list that isn't refused as an empty one has an element
filled : {A : Type 0} (code : ℕ) (place : Place) (xs : List A) → must code place (not (is_empty xs)) ≡ None → is_empty xs ≡ false
filled code place xs none = not_holds (is_empty xs) (must_holds code place (not (is_empty xs)) none)

-- ---- texts of scalar values

abbrev put_before : Bool → ℕ → List ℕ × List (List ℕ) → List ℕ × List (List ℕ)
put_before bar c p = if bar then ([], p.0 ∷ p.1) else (c ∷ p.0, p.1)

name_scalars : (key : List ℕ) → all_scalars key ≡ true → all_scalars (name_in key) ≡ true
name_scalars [] h = refl
name_scalars (c ∷ cs) h =
    let both = and_parts (scalar c) (all_scalars cs) h in
    elim (c == 124) as (λ (b : Bool). all_scalars (put_before b c (pieces cs)).0 ≡ true) [
      | true ↦ refl
      | false ↦ and_from (scalar c) (all_scalars (name_in cs)) both.0 (name_scalars cs both.1)
    ]

abbrev IsScalarMember : Member → Type 0
IsScalarMember e = (all_scalars e.key ≡ true) × HasScalarTexts e.value

each_entered : (ms : Members) → MembersHave ms → EachOf IsScalarMember (entered ms)
each_entered no_members h = tt
each_entered (member k a t ms) h = ((h.0, h.1), each_entered ms h.2)

each_listed : (es : Elements) → HaveScalarTexts es → EachOf HasScalarTexts (listed es)
each_listed no_elements h = tt
each_listed (element t ts) h = (h.0, each_listed ts h.1)

each_entry : (t : Tree) → HasScalarTexts t → EachOf IsScalarMember (entries_in t)
each_entry (scalar_node a s) h = tt
each_entry (list a es) h = tt
each_entry (tree_map a ms) h = each_entered ms h

each_part : (t : Tree) → HasScalarTexts t → EachOf HasScalarTexts (parts_in t)
each_part (scalar_node a s) h = (h, tt)
each_part (list a es) h = each_listed es h
each_part (tree_map a ms) h = (h, tt)

found_value : (key : List ℕ) (es : List Member) (t : Tree) → EachOf IsScalarMember es → value_in key es ≡ Some t → HasScalarTexts t
found_value key [] t each h = absurd cc
found_value key (e ∷ es) t each h =
    elim (bytes_eq e.key key) as (λ (b : Bool). (if b then Some e.value else value_in key es) ≡ Some t → HasScalarTexts t) [
      | true ↦ λ is. let same : e.value ≡ t = cc in subst HasScalarTexts same each.0.1
      | false ↦ λ is. found_value key es t each.1 is
    ] h

each_kept : {A : Type 0} (P : A → Type 0) (p : A → Bool) (xs : List A) → EachOf P xs → EachOf P (filter p xs)
each_kept P p [] each = tt
each_kept P p (x ∷ xs) each =
    elim (p x) as (λ (b : Bool). EachOf P (if b then x ∷ filter p xs else filter p xs)) [
      | true ↦ (each.0, each_kept P p xs each.1)
      | false ↦ each_kept P p xs each.1
    ]

-- ---- values

module _ (unbuilt : List Place) (plain_tests : (most dashes : ℕ) (chain : Written) (value : Tree) (ts : List Test)
    → value_refusal unbuilt most dashes chain value ≡ None → HasScalarTexts value → TestsOf chain value ts → ArePlainTests ts)
    (some_test : (chain : Written) (value : Tree) (ts : List Test) → TestsOf chain value ts → HasElement ts)
    (keyword_tests : (chain : Written) (value : Tree) (ts : List Test) → chain.keyword ≡ true → TestsOf chain value ts → EachOf IsPatternTest ts) where
  values_plain : (most dashes : ℕ) (chain : Written) (parts : List Tree) (all : List (List Test)) → first (map (value_refusal unbuilt most dashes chain) parts) ≡ None
      → EachOf HasScalarTexts parts → AllZip (TestsOf chain) parts all → EachOf ArePlainTests all
  values_plain most dashes chain parts all none scalars h =
      each_read (TestsOf chain) HasScalarTexts ArePlainTests (value_refusal unbuilt most dashes chain) (plain_tests most dashes chain) parts all none scalars h

  -- ---- items, alternatives, detections

  item_values : (limits : Limits) (e : Member) → item_refusal unbuilt limits e ≡ None → first (map (value_refusal unbuilt limits.value_chars limits.dashes (key_chain e)) (parts_in e.value)) ≡ None
  item_values limits e none =
      let lines = three_hold (must 71 (key_place e) (is_item_key e.key)) (chain_refusal (is_keyword_key e.key) (key_place e) (words_in e.key))
      (values_refusal unbuilt limits (key_chain e) (key_place e) e.value) none in
      let values = four_hold (first (map shape_refusal (parts_in e.value))) (must 78 (place_of e.value) (not (is_empty (parts_in e.value))))
      (must 79 (key_place e) (nat_le (length (parts_in e.value)) limits.list_values)) (first (map (value_refusal unbuilt limits.value_chars limits.dashes (key_chain e)) (parts_in e.value))) lines.2 in
      values.3

  item_whole : (limits : Limits) (e : Member) (i : Item) → item_refusal unbuilt limits e ≡ None → IsScalarMember e → IsItem e i → IsWholeItem i
  item_whole limits e i none scalars read =
      whole_item some_test keyword_tests unbuilt limits e i none read (name_scalars e.key scalars.0)
      (values_plain limits.value_chars limits.dashes (key_chain e) (parts_in e.value) i.tests (item_values limits e none) (each_part e.value scalars.1) read.tests)

  keyword_whole : (limits : Limits) (t : Tree) (i : Item) → keyword_refusal unbuilt limits t ≡ None → HasScalarTexts t → IsKeyword t i → IsWholeItem i
  keyword_whole limits t i none scalars read =
      whole_keyword some_test keyword_tests t i read
      (values_plain limits.value_chars limits.dashes (bare_chain t) (t ∷ []) i.tests (first_one (keyword_refusal unbuilt limits t) ∙ none) (scalars, tt) read.tests)

  alternative_whole : (limits : Limits) (t : Tree) (items : List Item) → alternative_refusal unbuilt limits t ≡ None → HasScalarTexts t → IsAlternative t items → IsWholeAlternative items
  alternative_whole limits (scalar_node a s) items none scalars read =
      subst IsWholeAlternative (sym read.1) (record { some = tt; each = (keyword_whole limits (scalar_node a s) read.0 none scalars read.2, tt) })
  alternative_whole limits (list a es) items none scalars read = absurd read
  alternative_whole limits (tree_map a ms) items none scalars read =
      let place = place_of (tree_map a ms) in
      let lines = first_holds (must 77 place (not (is_empty (entered ms)))) (map (item_refusal unbuilt limits) (entered ms)) none in
      record {
        some = zip_some IsItem (entered ms) items read (filled 77 place (entered ms) lines.0);
        each = each_read IsItem IsScalarMember IsWholeItem (item_refusal unbuilt limits) (item_whole limits) (entered ms) items lines.1 (each_entered ms scalars) read;
      }

  detection_whole : (limits : Limits) (e : Member) (d : Detection) → detection_refusal unbuilt limits e ≡ None → IsScalarMember e → IsDetection e d → IsWholeDetection d
  detection_whole limits e d none scalars read =
      let lines = two_hold (must 71 (key_place e) (is_detection_key e)) (content_refusal unbuilt limits (key_place e) e.value) none in
      let content = four_hold (must 77 (place_of e.value) (not (is_null e.value))) (must 78 (place_of e.value) (not (is_empty (parts_in e.value))))
      (must 79 (key_place e) (nat_le (length (parts_in e.value)) limits.list_values)) (first (map (alternative_refusal unbuilt limits) (parts_in e.value))) lines.1 in
      record {
        some = zip_some IsAlternative (parts_in e.value) d.alternatives read.alternatives (filled 78 (place_of e.value) (parts_in e.value) content.1);
        each = each_read IsAlternative HasScalarTexts IsWholeAlternative (alternative_refusal unbuilt limits) (alternative_whole limits)
            (parts_in e.value) d.alternatives content.3 (each_part e.value scalars.1) read.alternatives;
      }

  detections_whole : (limits : Limits) (t : Tree) (ds : List Detection) → detections_refusal unbuilt limits t ≡ None → HasScalarTexts t → AreDetections t ds → EachOf IsWholeDetection ds
  detections_whole limits t ds none scalars read =
      let lines = three_hold (must 71 (place_of t) (is_map t)) (must 77 (place_of t) (list_any is_identified (entries_in t) || begins_with_timeframe (entries_in t)))
      (first (map (detection_refusal unbuilt limits) (detection_entries t))) none in
      each_read IsDetection IsScalarMember IsWholeDetection (detection_refusal unbuilt limits) (detection_whole limits) (detection_entries t) ds lines.2
      (each_kept IsScalarMember is_no_condition (entries_in t) (each_entry t scalars)) read

  pub rule_whole : (limits : Limits) (t : Tree) (rule : PlainRule) → rule_refusal unbuilt limits t ≡ None → IsRule t rule → HasScalarTexts t → IsWhole rule
  rule_whole limits t rule none read scalars =
      let source = value_in (codes "logsource") (entries_in t) in
      let detection = value_in (codes "detection") (entries_in t) in
      let lines = six_hold (first (head_checks t)) (must 70 (place_of t) (is_some source)) (refused_by source_refusal source)
      (must 70 (place_of t) (is_some detection)) (refused_by (detections_refusal unbuilt limits) detection) (refused_by (conditions_refusal limits) detection) none in
      let own = found_value (codes "detection") (entries_in t) read.detection (each_entry t scalars) read.detection_there in
      let detected : detections_refusal unbuilt limits read.detection ≡ None = sym (ap (refused_by (detections_refusal unbuilt limits)) read.detection_there) ∙ lines.4 in
      let conditioned : conditions_refusal limits read.detection ≡ None = sym (ap (refused_by (conditions_refusal limits)) read.detection_there) ∙ lines.5 in
      record {
        detections = detections_whole limits read.detection rule.detections detected own read.detections;
        some = some_conditions limits read.detection rule.conditions conditioned read.conditions;
        conditions = subst (λ (count : ℕ). EachOf (IsWholeForm count) rule.conditions) (as_many read.detection rule.detections read.detections)
            (whole_conditions read.detection rule.conditions read.conditions);
      }
