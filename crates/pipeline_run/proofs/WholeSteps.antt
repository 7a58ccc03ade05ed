-- The pipeline that a document is of which nothing is refused keeps rules whole.
use Rattle.std.proofs.Common.{◌≡◌, true, false, List, ◌∷◌, [], map, refl, sym, ap, subst}
use Rattle.std.specs.Prelude.{ℕ, Option, Some, None, IfSome, codes, is_some, not}
use Rattle.std.specs.List.{AllZip}
use Rattle.modifier_words.specs.Written.{Written}
use Rattle.event_schema.specs.Events.{IsPlainText}
use Rattle.event_schema.specs.Lists.{EachOf, HasElement}
use Rattle.sig_base.specs.declared.limits.Limits.{Limits}
use Rattle.sig_base.specs.declared.refusal.Place.{Place}
use Rattle.sig_base.specs.declared.refusal.Refusal.{Refusal}
use Rattle.sig_base.specs.Judged.{must}
use Rattle.sig_base.proofs.Checks.{must_holds}
use Rattle.rule_detections.specs.PlainTests.{ArePlainTests, IsPatternTest}
use Rattle.rule_detections.specs.TestsOf.{TestsOf, value_refusal}
use Rattle.rule_detections.specs.declared.test.Test.{Test}
use Rattle.yaml_tree.specs.Nodes.{place_of, is_empty, entries_in, entries_if, entries_at, text_in, value_in, has_key}
use Rattle.yaml_tree.specs.Texts.{HasScalarTexts}
use Rattle.yaml_tree.specs.Tree.{Tree, Member}
use Rattle.rule_detections.specs.Items.{IsItem, item_refusal}
use Rattle.rule_detections.specs.Whole.{IsWholeItem, IsWholeAlternative}
use Rattle.rule_detections.specs.declared.item.Item.{Item}
use Rattle.rule_detections.proofs.Zips.{zip_some}
use Rattle.pipeline_model.specs.Checks.{kind_at, entry_refusal, chosen_in, needed_refusal, added_by, items_shape, parts_if, steps_in, pipeline_refusal}
use Rattle.pipeline_model.specs.Pipelines.{value_text, pair_of, pairs_at, var_of, IsAction, IsStep, IsPipeline}
use Rattle.pipeline_check.specs.Shapes.{map_refusal, is_target, is_value, targets_refusal, mapping_refusal, values_refusal, vars_refusal}
use Rattle.pipeline_check.specs.Words.{kind_of}
use Rattle.pipeline_model.specs.declared.pipeline.Pipeline.{Pipeline}
use Rattle.pipeline_model.specs.declared.pipeline.Var.{Var}
use Rattle.pipeline_model.specs.declared.step.Action.{Action}
use Rattle.pipeline_model.specs.declared.step.Step.{Step}
use Rattle.pipeline_rename.specs.Kept as names
use Rattle.pipeline_fill.specs.Kept as values
use Rattle.pipeline_run.specs.Kept.{MakesWhole, IsWholePipeline}
use Rattle.pipeline_run.proofs.AddedItems.{item_whole}
use Rattle.pipeline_run.proofs.ByType.{by_type, at_type}
use Rattle.pipeline_run.proofs.Lists.{zip_each, each_both}
use Rattle.pipeline_run.proofs.ScalarTexts.{IsScalarMember, each_entry, each_part, found_value, text_scalars, text_at_scalars, value_plain, target_plain}
use Rattle.pipeline_run.proofs.Unrefused.{IsAllowed, parts_are, entries_are, key_passes, steps_pass, vars_pass, filled, all_pass}

-- ---- what stands at a key

-- the entries of the map at a key, each read as something
at_key : {B : Type 0} (judge : Tree → Option Refusal) (read : Member → B) (Q : B → Type 0)
    → ((v : Tree) → judge v ≡ None → HasScalarTexts v → EachOf Q (map read (entries_in v)))
    → (key : List ℕ) (t : Tree) → HasScalarTexts t → ((v : Tree) → value_in key (entries_in t) ≡ Some v → judge v ≡ None)
    → EachOf Q (map read (entries_at key t))
at_key judge read Q holds key t texts passes = by (value_in key (entries_in t)) refl
  where
    by : (o : Option Tree) → value_in key (entries_in t) ≡ o → EachOf Q (map read (entries_if o))
    by None found = tt
    by (Some v) found = holds v (passes v found) (found_value key t v texts found)

scalars_at : (key : List ℕ) (t : Tree) → HasScalarTexts t → EachOf IsScalarMember (entries_at key t)
scalars_at key t texts = by (value_in key (entries_in t)) refl
  where
    by : (o : Option Tree) → value_in key (entries_in t) ≡ o → EachOf IsScalarMember (entries_if o)
    by None found = tt
    by (Some v) found = each_entry v (found_value key t v texts found)

-- ---- mappings and variables

target_of_names : (e : Member) → targets_refusal false e.value ≡ None → HasScalarTexts e.value → names.HasTargets (pair_of e)
target_of_names e none texts =
    let both = parts_are (is_target false) text_in names.IsScalarText (λ t is scalars. text_scalars t scalars) e.value none texts in
    record { some = both.0; scalars = both.1 }

target_of_values : (e : Member) → targets_refusal true e.value ≡ None → HasScalarTexts e.value → values.HasTargets (pair_of e)
target_of_values e none texts =
    let both = parts_are (is_target true) text_in IsPlainText target_plain e.value none texts in
    record { some = both.0; plain = both.1 }

values_of_var : (e : Member) → values_refusal e.value ≡ None → HasScalarTexts e.value → values.HasValues (var_of e)
values_of_var e none texts =
    let both = parts_are is_value value_text IsPlainText value_plain e.value none texts in
    record { some = both.0; plain = both.1 }

mapped_names : (t : Tree) → HasScalarTexts t → ((v : Tree) → value_in (codes "mapping") (entries_in t) ≡ Some v → mapping_refusal false v ≡ None)
    → EachOf names.HasTargets (pairs_at t)
mapped_names t texts passes =
    at_key (mapping_refusal false) pair_of names.HasTargets (entries_are (targets_refusal false) pair_of names.HasTargets target_of_names) (codes "mapping") t texts passes

mapped_values : (t : Tree) → HasScalarTexts t → ((v : Tree) → value_in (codes "mapping") (entries_in t) ≡ Some v → mapping_refusal true v ≡ None)
    → EachOf values.HasTargets (pairs_at t)
mapped_values t texts passes =
    at_key (mapping_refusal true) pair_of values.HasTargets (entries_are (targets_refusal true) pair_of values.HasTargets target_of_values) (codes "mapping") t texts passes

vars_whole : (unbuilt : List Place) (limits : Limits) (t : Tree) → pipeline_refusal unbuilt limits t ≡ None → HasScalarTexts t
    → EachOf values.HasValues (map var_of (entries_at (codes "vars") t))
vars_whole unbuilt limits t none texts =
    at_key vars_refusal var_of values.HasValues (entries_are values_refusal var_of values.HasValues values_of_var) (codes "vars") t texts
    (λ v found. vars_pass unbuilt limits t v none found)

-- ---- items that are added

-- nothing that stands in a step is refused under the type that a word names
abbrev Fine : List ℕ → Tree → Type 0
Fine word t = EachOf (λ e. entry_refusal (chosen_in (entries_in t)) (kind_of word) e ≡ None) (entries_in t)

some_added : (t : Tree) → needed_refusal (kind_of (codes "add_condition")) t ≡ None → Fine (codes "add_condition") t → is_empty (entries_at (codes "conditions") t) ≡ false
some_added t needed fine = by (value_in (codes "conditions") (entries_in t)) refl
  where
    by : (o : Option Tree) → value_in (codes "conditions") (entries_in t) ≡ o → is_empty (entries_if o) ≡ false
    by None found =
        let there : is_some (value_in (codes "conditions") (entries_in t)) ≡ true = must_holds 90 (place_of t) (has_key (codes "conditions") t) needed in
        absurd (let none : is_some (value_in (codes "conditions") (entries_in t)) ≡ false = ap (λ (o : Option Tree). is_some o) found in cc)
    by (Some v) found =
        let shape : items_shape v ≡ None = (key_passes (codes "add_condition") (codes "conditions") t v fine found).1 in
        let lines = all_pass (map_refusal v ∷ must 90 (place_of v) (not (is_empty (entries_in v))) ∷ []) shape in
        filled (place_of v) (entries_in v) lines.1.0

module _ (unbuilt : List Place)
    (plain_tests : (most dashes : ℕ) (chain : Written) (value : Tree) (tests : List Test) → value_refusal unbuilt most dashes chain value ≡ None → HasScalarTexts value
    → TestsOf chain value tests → ArePlainTests tests)
    (some_test : (chain : Written) (value : Tree) (tests : List Test) → TestsOf chain value tests → HasElement tests)
    (keyword_tests : (chain : Written) (value : Tree) (tests : List Test) → chain.keyword ≡ true → TestsOf chain value tests → EachOf IsPatternTest tests)
    (limits : Limits) where
  added_whole : (t : Tree) (items : List Item) → needed_refusal (kind_of (codes "add_condition")) t ≡ None → Fine (codes "add_condition") t
      → EachOf (λ e. item_refusal unbuilt limits e ≡ None) (entries_at (codes "conditions") t) → HasScalarTexts t
      → AllZip IsItem (entries_at (codes "conditions") t) items → IsWholeAlternative items
  added_whole t items needed fine added texts read =
      let entries = entries_at (codes "conditions") t in
      let IsGiven : Member → Type 0 = λ e. (item_refusal unbuilt limits e ≡ None) × IsScalarMember e in
      let given : EachOf IsGiven entries = each_both (λ e. item_refusal unbuilt limits e ≡ None) IsScalarMember IsGiven (λ e passes scalars. (passes, scalars)) entries added
      (scalars_at (codes "conditions") t texts) in
      record {
        some = zip_some IsItem entries items read (some_added t needed fine);
        each = zip_each IsGiven IsItem IsWholeItem (λ e i both is. item_whole unbuilt plain_tests some_test keyword_tests limits e i both.0 both.1 is) entries items given read;
      }

  -- ---- steps

  action_whole : (t : Tree) (vars : List Var) (action : Action) → HasScalarTexts t → EachOf values.HasValues vars → IsAllowed unbuilt limits t
      → IfSome (kind_at t) (λ kind. IsAction kind t action → MakesWhole vars action)
  action_whole t vars action texts given allowed =
      by_type (λ o. needed_refusal o t ≡ None → EachOf (λ e. entry_refusal (chosen_in (entries_in t)) o e ≡ None) (entries_in t)
      → EachOf (λ e. item_refusal unbuilt limits e ≡ None) (added_by o t) → IfSome o (λ kind. IsAction kind t action → MakesWhole vars action))
      (λ needed fine added. tt)
      (λ needed fine added is. subst (MakesWhole vars) (sym is)
      (record { names = mapped_names t texts (λ v found. (key_passes (codes "field_name_mapping") (codes "mapping") t v fine found).1); adds = tt; tests = tt }))
      (λ needed fine added is. subst (MakesWhole vars) (sym is) (record { names = text_at_scalars (codes "prefix") t texts; adds = tt; tests = tt }))
      (λ needed fine added is. subst (MakesWhole vars) (sym is) (record { names = text_at_scalars (codes "suffix") t texts; adds = tt; tests = tt }))
      (λ needed fine added is. subst (MakesWhole vars) (sym is)
      (record { names = mapped_names t texts (λ v found. (key_passes (codes "field_name_prefix_mapping") (codes "mapping") t v fine found).1); adds = tt; tests = tt }))
      (λ needed fine added is. subst (MakesWhole vars) (sym is) (record { names = tt; adds = tt; tests = tt }))
      (λ needed fine added is. subst (MakesWhole vars) (sym is.action_is) (record { names = tt; adds = added_whole t is.items needed fine added texts is.are_items; tests = tt }))
      (λ needed fine added is. subst (MakesWhole vars) (sym is) (record { names = tt; adds = tt; tests = tt }))
      (λ needed fine added is. subst (MakesWhole vars) (sym is)
      (record { names = tt; adds = tt; tests = mapped_values t texts (λ v found. (key_passes (codes "map_string") (codes "mapping") t v fine found).1) }))
      (λ needed fine added is. subst (MakesWhole vars) (sym is) (record { names = tt; adds = tt; tests = given }))
      (λ needed fine added is. subst (MakesWhole vars) (sym is) (record { names = tt; adds = tt; tests = tt }))
      (λ needed fine added is. subst (MakesWhole vars) (sym is) (record { names = tt; adds = tt; tests = tt }))
      (λ needed fine added is. subst (MakesWhole vars) (sym is) (record { names = tt; adds = tt; tests = tt }))
      t allowed.needed allowed.entries allowed.items

  step_whole : (vars : List Var) → EachOf values.HasValues vars → (t : Tree) (step : Step) → IsAllowed unbuilt limits t × HasScalarTexts t → IsStep t step
      → MakesWhole vars step.action
  step_whole vars given t step both read =
      at_type (kind_at t) _ read.kind read.kind_is (action_whole t vars step.action both.1 given both.0) read.action

  steps_scalars : (t : Tree) → HasScalarTexts t → EachOf HasScalarTexts (steps_in t)
  steps_scalars t texts = by (value_in (codes "transformations") (entries_in t)) refl
    where
      by : (o : Option Tree) → value_in (codes "transformations") (entries_in t) ≡ o → EachOf HasScalarTexts (parts_if o)
      by None found = tt
      by (Some v) found = each_part v (found_value (codes "transformations") t v texts found)

  pub pipeline_whole : (t : Tree) (pipeline : Pipeline) → pipeline_refusal unbuilt limits t ≡ None → HasScalarTexts t → IsPipeline t pipeline → IsWholePipeline pipeline
  pipeline_whole t pipeline none texts read =
      let given : EachOf values.HasValues pipeline.vars = subst (EachOf values.HasValues) (sym read.vars) (vars_whole unbuilt limits t none texts) in
      let IsGiven : Tree → Type 0 = λ u. IsAllowed unbuilt limits u × HasScalarTexts u in
      let both = each_both (IsAllowed unbuilt limits) HasScalarTexts IsGiven (λ u allowed scalars. (allowed, scalars)) (steps_in t)
      (steps_pass unbuilt limits t none) (steps_scalars t texts) in
      zip_each IsGiven IsStep (λ step. MakesWhole pipeline.vars step.action) (step_whole pipeline.vars given) (steps_in t) pipeline.steps both read.steps
