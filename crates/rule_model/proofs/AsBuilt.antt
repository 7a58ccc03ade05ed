-- Where regular expressions aren't built at some places, a document is refused as it is anyway, or 48 at one of these places.
use Rattle.std.proofs.Common.{ℕ, ◌≡◌, ◌∙◌, Bool, true, false, not, ◌||◌, List, [], ◌∷◌, ◌⊎◌, inl, inr, refl, sym, subst, map}
use Rattle.std.specs.Prelude.{Option, Some, None, codes, nat_le, length}
use Rattle.std.specs.List.{list_any}
use Rattle.event_schema.specs.Lists.{SomeOf}
use Rattle.modifier_words.specs.Chains.{chain_refusal}
use Rattle.modifier_words.specs.Written.{Written}
use Rattle.rule_head.specs.Heads.{head_checks}
use Rattle.rule_head.specs.Sources.{source_refusal}
use Rattle.rule_detections.specs.Detections.{alternative_refusal, content_refusal, is_detection_key, detection_refusal, detection_entries, is_identified, begins_with_timeframe, detections_refusal}
use Rattle.rule_detections.specs.Items.{key_chain, shape_refusal, values_refusal, item_refusal, bare_chain}
use Rattle.rule_detections.specs.Keys.{words_in, is_keyword_key, is_item_key}
use Rattle.rule_model.specs.AsBuilt.{IsRefusedAsBuilt}
use Rattle.rule_model.specs.Conditions.{conditions_refusal}
use Rattle.rule_model.specs.Rules.{rule_refusal, correlation_refusal, lone_refusal}
use Rattle.sig_base.proofs.Checks.{stops}
use Rattle.sig_base.specs.Judged.{must, first, refusal}
use Rattle.sig_base.specs.declared.limits.Limits.{Limits}
use Rattle.sig_base.specs.declared.refusal.Place.{Place}
use Rattle.sig_base.specs.declared.refusal.Refusal.{Refusal}
use Rattle.rule_detections.specs.TestsOf.{use_of, value_refusal}
use Rattle.modifier_values.specs.Expressions.{is_same_place, is_built_at}
use Rattle.modifier_values.specs.Uses.{Use, expression_in, use_checks, use_refusal}
use Rattle.yaml_tree.specs.Nodes.{entered, entries_in, is_empty, is_map, is_null, key_place, parts_in, place_of, refused_at, refused_by, required, value_in}
use Rattle.yaml_tree.specs.Tree.{Tree, scalar, list, map as tree_map, Member}
use Rattle.rule_model.proofs.Lone.{some_none}
use Rattle.rule_model.proofs.Places.{among}

some_is : (x y : Refusal) → Some x ≡ Some y → x ≡ y
some_is x y e = cc

either_same : {A B C : Type 0} → (A → B) → A ⊎ C → B ⊎ C
either_same f (inl x) = inl (f x)
either_same f (inr y) = inr y

-- ---- tables

module _ (unbuilt : List Place) where
  as_ever : (cause : Option Refusal) → IsRefusedAsBuilt unbuilt cause cause
  as_ever cause = record { taken = λ none. none; refused = λ r some. inl some }

  line_as_built : (a b : Option Refusal) (cs ds : List (Option Refusal)) → IsRefusedAsBuilt unbuilt a b → IsRefusedAsBuilt unbuilt (first cs) (first ds)
      → IsRefusedAsBuilt unbuilt (first (a ∷ cs)) (first (b ∷ ds))
  line_as_built None b cs ds one more = subst (λ (o : Option Refusal). IsRefusedAsBuilt unbuilt (first cs) (first (o ∷ ds))) (sym (one.taken refl)) more
  line_as_built (Some q) b cs ds one more = record {
    taken = λ none. absurd (some_none q none);
    refused = λ r some. either_same (λ is. stops b ds r is) (one.refused r some);
  }

  -- behind a line that is the same
  behind : (line : Option Refusal) (cs ds : List (Option Refusal)) → IsRefusedAsBuilt unbuilt (first cs) (first ds) → IsRefusedAsBuilt unbuilt (first (line ∷ cs)) (first (line ∷ ds))
  behind line cs ds more = line_as_built line line cs ds (as_ever line) more

  -- tables whose last line alone differs
  last_of_one : (a b : Option Refusal) → IsRefusedAsBuilt unbuilt a b → IsRefusedAsBuilt unbuilt (first (a ∷ [])) (first (b ∷ []))
  last_of_one a b one = line_as_built a b [] [] one (as_ever None)

  last_of_two : (c a b : Option Refusal) → IsRefusedAsBuilt unbuilt a b → IsRefusedAsBuilt unbuilt (first (c ∷ a ∷ [])) (first (c ∷ b ∷ []))
  last_of_two c a b one = behind c (a ∷ []) (b ∷ []) (last_of_one a b one)

  last_of_three : (c d a b : Option Refusal) → IsRefusedAsBuilt unbuilt a b → IsRefusedAsBuilt unbuilt (first (c ∷ d ∷ a ∷ [])) (first (c ∷ d ∷ b ∷ []))
  last_of_three c d a b one = behind c (d ∷ a ∷ []) (d ∷ b ∷ []) (last_of_two d a b one)

  last_of_four : (c d e a b : Option Refusal) → IsRefusedAsBuilt unbuilt a b → IsRefusedAsBuilt unbuilt (first (c ∷ d ∷ e ∷ a ∷ [])) (first (c ∷ d ∷ e ∷ b ∷ []))
  last_of_four c d e a b one = behind c (d ∷ e ∷ a ∷ []) (d ∷ e ∷ b ∷ []) (last_of_three d e a b one)

  -- a table and one beside it
  record AreTables (cs ds : List (Option Refusal)) : Type 0 where
    are : IsRefusedAsBuilt unbuilt (first cs) (first ds)

  one_line : (a b : Option Refusal) → IsRefusedAsBuilt unbuilt a b → AreTables (a ∷ []) (b ∷ [])
  one_line a b one = record { are = last_of_one a b one }

  more_lines : (line : Option Refusal) (cs ds : List (Option Refusal)) → AreTables cs ds → AreTables (line ∷ cs) (line ∷ ds)
  more_lines line cs ds more = record { are = behind line cs ds more.are }

  parts_as_built : {X : Type 0} (f g : X → Option Refusal) → ((x : X) → IsRefusedAsBuilt unbuilt (f x) (g x)) → (xs : List X)
      → IsRefusedAsBuilt unbuilt (first (map f xs)) (first (map g xs))
  parts_as_built f g each [] = as_ever None
  parts_as_built f g each (x ∷ xs) = line_as_built (f x) (g x) (map f xs) (map g xs) (each x) (parts_as_built f g each xs)

  -- ---- a value

  built_line : (place : Place) (e : Option (List ℕ)) → IsRefusedAsBuilt unbuilt (must 48 place (is_built_at unbuilt place e)) (must 48 place (is_built_at [] place e))
  built_line place None = as_ever None
  built_line place (Some text) = by (list_any (is_same_place place) unbuilt) refl
    where
      by : (b : Bool) → list_any (is_same_place place) unbuilt ≡ b → IsRefusedAsBuilt unbuilt (must 48 place (not b)) None
      by false there = as_ever None
      by true there = record {
        taken = λ none. absurd (some_none (refusal 48 place) none);
        refused = λ r some. inr (subst (λ (s : Refusal). (s ≡ refusal 48 s.place) × SomeOf (λ p. p ≡ s.place) unbuilt) (some_is (refusal 48 place) r some) (refl, among unbuilt place there));
      }

  use_as_built : (most dashes : ℕ) (chain : Written) (place : Place) (u : Use)
      → IsRefusedAsBuilt unbuilt (use_refusal unbuilt most dashes chain place u) (use_refusal [] most dashes chain place u)
  use_as_built most dashes chain place u =
      let tables : AreTables (use_checks unbuilt most dashes chain place u) (use_checks [] most dashes chain place u) =
      more_lines _ _ _ (more_lines _ _ _ (more_lines _ _ _ (more_lines _ _ _ (more_lines _ _ _ (more_lines _ _ _ (more_lines _ _ _ (more_lines _ _ _ (more_lines _ _ _ (more_lines _ _ _
      (one_line _ _ (built_line place (expression_in u)))))))))))) in
      tables.are

  value_as_built : (most dashes : ℕ) (chain : Written) (value : Tree) → IsRefusedAsBuilt unbuilt (value_refusal unbuilt most dashes chain value) (value_refusal [] most dashes chain value)
  value_as_built most dashes chain value = use_as_built most dashes chain (place_of value) (use_of chain value)

  -- ---- items, alternatives, detections

  values_as_built : (limits : Limits) (chain : Written) (place : Place) (t : Tree) → IsRefusedAsBuilt unbuilt (values_refusal unbuilt limits chain place t) (values_refusal [] limits chain place t)
  values_as_built limits chain place t =
      let causes : List Place → Option Refusal = λ places. first (map (value_refusal places limits.value_chars limits.dashes chain) (parts_in t)) in
      last_of_four (first (map shape_refusal (parts_in t))) (must 78 (place_of t) (not (is_empty (parts_in t)))) (must 79 place (nat_le (length (parts_in t)) limits.list_values))
      (causes unbuilt) (causes [])
      (parts_as_built (value_refusal unbuilt limits.value_chars limits.dashes chain) (value_refusal [] limits.value_chars limits.dashes chain)
      (value_as_built limits.value_chars limits.dashes chain) (parts_in t))

  item_as_built : (limits : Limits) (e : Member) → IsRefusedAsBuilt unbuilt (item_refusal unbuilt limits e) (item_refusal [] limits e)
  item_as_built limits e =
      last_of_three (must 71 (key_place e) (is_item_key e.key)) (chain_refusal (is_keyword_key e.key) (key_place e) (words_in e.key))
      (values_refusal unbuilt limits (key_chain e) (key_place e) e.value) (values_refusal [] limits (key_chain e) (key_place e) e.value)
      (values_as_built limits (key_chain e) (key_place e) e.value)

  alternative_as_built : (limits : Limits) (t : Tree) → IsRefusedAsBuilt unbuilt (alternative_refusal unbuilt limits t) (alternative_refusal [] limits t)
  alternative_as_built limits (scalar a s) = value_as_built limits.value_chars limits.dashes (bare_chain (scalar a s)) (scalar a s)
  alternative_as_built limits (list a es) = as_ever (must 71 (place_of (list a es)) false)
  alternative_as_built limits (tree_map a ms) =
      behind (must 77 (place_of (tree_map a ms)) (not (is_empty (entered ms)))) (map (item_refusal unbuilt limits) (entered ms)) (map (item_refusal [] limits) (entered ms))
      (parts_as_built (item_refusal unbuilt limits) (item_refusal [] limits) (item_as_built limits) (entered ms))

  content_as_built : (limits : Limits) (place : Place) (t : Tree) → IsRefusedAsBuilt unbuilt (content_refusal unbuilt limits place t) (content_refusal [] limits place t)
  content_as_built limits place t =
      let causes : List Place → Option Refusal = λ places. first (map (alternative_refusal places limits) (parts_in t)) in
      last_of_four (must 77 (place_of t) (not (is_null t))) (must 78 (place_of t) (not (is_empty (parts_in t)))) (must 79 place (nat_le (length (parts_in t)) limits.list_values))
      (causes unbuilt) (causes [])
      (parts_as_built (alternative_refusal unbuilt limits) (alternative_refusal [] limits) (alternative_as_built limits) (parts_in t))

  detection_as_built : (limits : Limits) (e : Member) → IsRefusedAsBuilt unbuilt (detection_refusal unbuilt limits e) (detection_refusal [] limits e)
  detection_as_built limits e =
      last_of_two (must 71 (key_place e) (is_detection_key e)) (content_refusal unbuilt limits (key_place e) e.value) (content_refusal [] limits (key_place e) e.value)
      (content_as_built limits (key_place e) e.value)

  detections_as_built : (limits : Limits) (t : Tree) → IsRefusedAsBuilt unbuilt (detections_refusal unbuilt limits t) (detections_refusal [] limits t)
  detections_as_built limits t =
      let causes : List Place → Option Refusal = λ places. first (map (detection_refusal places limits) (detection_entries t)) in
      last_of_three (must 71 (place_of t) (is_map t)) (must 77 (place_of t) (list_any is_identified (entries_in t) || begins_with_timeframe (entries_in t)))
      (causes unbuilt) (causes [])
      (parts_as_built (detection_refusal unbuilt limits) (detection_refusal [] limits) (detection_as_built limits) (detection_entries t))

  -- ---- a rule

  abbrev rule_checks : List Place → Limits → Tree → List (Option Refusal)
  rule_checks places limits t =
      first (head_checks t)
      ∷ required (codes "logsource") 70 t
      ∷ refused_at (codes "logsource") source_refusal t
      ∷ required (codes "detection") 70 t
      ∷ refused_at (codes "detection") (detections_refusal places limits) t
      ∷ refused_at (codes "detection") (conditions_refusal limits) t
      ∷ []

  found_as_built : (limits : Limits) (o : Option Tree) → IsRefusedAsBuilt unbuilt (refused_by (detections_refusal unbuilt limits) o) (refused_by (detections_refusal [] limits) o)
  found_as_built limits None = as_ever None
  found_as_built limits (Some t) = detections_as_built limits t

  pub rule_as_built : (limits : Limits) (t : Tree) → IsRefusedAsBuilt unbuilt (rule_refusal unbuilt limits t) (rule_refusal [] limits t)
  rule_as_built limits t =
      let detection = value_in (codes "detection") (entries_in t) in
      let conditions = refused_by (conditions_refusal limits) detection in
      let tables : AreTables (rule_checks unbuilt limits t) (rule_checks [] limits t) =
      more_lines _ _ _ (more_lines _ _ _ (more_lines _ _ _ (more_lines _ _ _
      (record {
        are = line_as_built (refused_by (detections_refusal unbuilt limits) detection) (refused_by (detections_refusal [] limits) detection) (conditions ∷ []) (conditions ∷ [])
            (found_as_built limits detection) (as_ever (first (conditions ∷ [])));
      })))) in
      tables.are

  pub lone_as_built : (limits : Limits) (t : Tree) → IsRefusedAsBuilt unbuilt (lone_refusal unbuilt limits t) (lone_refusal [] limits t)
  lone_as_built limits t = last_of_two (correlation_refusal t) (rule_refusal unbuilt limits t) (rule_refusal [] limits t) (rule_as_built limits t)
