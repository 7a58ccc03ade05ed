-- An item that is read is whole.
use Rattle.std.proofs.Common.{ℕ, ◌≡◌, List, [], ◌∷◌, Bool, true, false, not, ◌||◌, if◌then◌else◌, refl, sym, subst}
use Rattle.std.specs.Prelude.{Option, None, nat_le, length, map as list_map}
use Rattle.sig_base.specs.declared.limits.Limits.{Limits}
use Rattle.sig_base.specs.declared.refusal.Place.{Place}
use Rattle.sig_base.specs.declared.refusal.Refusal.{Refusal}
use Rattle.modifier_words.specs.Chains.{chain_refusal}
use Rattle.sig_base.specs.Judged.{first, must}
use Rattle.std.specs.Str.{all_scalars}
use Rattle.yaml_tree.specs.Tree.{Tree, scalar, list, map, null, truth, whole, text, Member}
use Rattle.rule_detections.specs.PlainTests.{ArePlainTests, IsPatternTest}
use Rattle.rule_detections.specs.TestsOf.{TestsOf, value_refusal}
use Rattle.yaml_tree.specs.Nodes.{place_of}
use Rattle.modifier_words.specs.Written.{Written}
use Rattle.rule_detections.specs.declared.test.Test.{Test}
use Rattle.rule_detections.specs.Items.{IsItem, IsKeyword, bare_chain, key_chain, shape_refusal, values_refusal, item_refusal}
use Rattle.event_schema.specs.Names.{is_legal}
use Rattle.rule_detections.specs.Keys.{name_in, words_in, is_item_key, is_keyword_key}
use Rattle.yaml_tree.specs.Nodes.{is_empty}
use Rattle.event_schema.specs.Lists.{EachOf, HasElement}
use Rattle.yaml_tree.specs.Nodes.{parts_in, key_place}
use Rattle.rule_detections.specs.Whole.{IsWholeValue, IsWholeItem, AreWholeFields}
use Rattle.rule_detections.specs.declared.item.Fields.{Fields}
use Rattle.rule_detections.specs.declared.item.Fields.TheVariants.{Keyword, Names}
use Rattle.rule_detections.specs.declared.item.Item.{Item}
use Rattle.sig_base.proofs.Checks.{first_holds, must_holds, not_holds}
use Rattle.rule_detections.proofs.Zips.{zip_some, zip_each}

whole_value : (some_test : (chain : Written) (value : Tree) (ts : List Test) → TestsOf chain value ts → HasElement ts)
    → (chain : Written) (t : Tree) (ts : List Test) → TestsOf chain t ts → ArePlainTests ts → IsWholeValue ts
whole_value some_test chain t ts h plain = record { some = some_test chain t ts h; each = plain }

whole_fields : (b : Bool) (name : List ℕ) (values : List (List Test)) → (b ≡ true → EachOf (EachOf IsPatternTest) values)
    → (b || is_legal name) ≡ true → all_scalars name ≡ true → AreWholeFields (if b then Keyword else Names (name ∷ [])) values
whole_fields true name values patterns legal scalars = patterns refl
whole_fields false name values patterns legal scalars = (tt, (record { legal = legal; scalars = scalars }, tt))

unfoldable more_checks : List Place → Limits → Written → Place → Tree → List (Option Refusal)
more_checks unbuilt limits chain place t =
    must 79 place (nat_le (length (parts_in t)) limits.list_values)
    ∷ first (list_map (value_refusal unbuilt limits.value_chars limits.dashes chain) (parts_in t))
    ∷ []

-- where no value is refused, there is one
values_some : (unbuilt : List Place) (limits : Limits) (chain : Written) (place : Place) (t : Tree) → values_refusal unbuilt limits chain place t ≡ None → is_empty (parts_in t) ≡ false
unfolding more_checks
values_some unbuilt limits chain place t none =
    let some = must 78 (place_of t) (not (is_empty (parts_in t))) in
    let behind = (first_holds (first (list_map shape_refusal (parts_in t))) (some ∷ more_checks unbuilt limits chain place t) none).1 in
    not_holds (is_empty (parts_in t)) (must_holds 78 (place_of t) (not (is_empty (parts_in t))) (first_holds some (more_checks unbuilt limits chain place t) behind).0)

-- where tests are some, and those of keywords patterns
module _ (some_test : (chain : Written) (value : Tree) (ts : List Test) → TestsOf chain value ts → HasElement ts)
    (keyword_tests : (chain : Written) (value : Tree) (ts : List Test) → chain.keyword ≡ true → TestsOf chain value ts → EachOf IsPatternTest ts) where
  pub whole_item : (unbuilt : List Place) (limits : Limits) (e : Member) (i : Item) → item_refusal unbuilt limits e ≡ None → IsItem e i → all_scalars (name_in e.key) ≡ true
      → EachOf ArePlainTests i.tests → IsWholeItem i
  whole_item unbuilt limits e i none read scalars plain =
      let named = must 71 (key_place e) (is_item_key e.key) in
      let chained = chain_refusal (is_keyword_key e.key) (key_place e) (words_in e.key) in
      let valued = values_refusal unbuilt limits (key_chain e) (key_place e) e.value in
      let after = first_holds named (chained ∷ valued ∷ []) none in
      let allowed = must_holds 71 (key_place e) (is_item_key e.key) after.0 in
      let value : valued ≡ None = (first_holds valued [] (first_holds chained (valued ∷ []) after.1).1).0 in
      record {
        fields = subst (λ (f : Fields). AreWholeFields f i.tests) (sym read.fields)
            (whole_fields (is_keyword_key e.key) (name_in e.key) i.tests
            (λ keyword. zip_each (TestsOf (key_chain e)) ArePlainTests (EachOf IsPatternTest) (λ value ts h plain. keyword_tests (key_chain e) value ts keyword h) (parts_in e.value) i.tests read.tests plain)
            allowed scalars);
        some = zip_some (TestsOf (key_chain e)) (parts_in e.value) i.tests read.tests (values_some unbuilt limits (key_chain e) (key_place e) e.value value);
        each = zip_each (TestsOf (key_chain e)) ArePlainTests IsWholeValue (whole_value some_test (key_chain e)) (parts_in e.value) i.tests read.tests plain;
      }

  pub whole_keyword : (t : Tree) (i : Item) → IsKeyword t i → EachOf ArePlainTests i.tests → IsWholeItem i
  whole_keyword t i read plain = record {
    fields = subst (λ (f : Fields). AreWholeFields f i.tests) (sym read.fields)
        (zip_each (TestsOf (bare_chain t)) ArePlainTests (EachOf IsPatternTest) (λ value ts h plain. keyword_tests (bare_chain t) value ts refl h) (t ∷ []) i.tests read.tests plain);
    some = zip_some (TestsOf (bare_chain t)) (t ∷ []) i.tests read.tests refl;
    each = zip_each (TestsOf (bare_chain t)) ArePlainTests IsWholeValue (whole_value some_test (bare_chain t)) (t ∷ []) i.tests read.tests plain;
  }
