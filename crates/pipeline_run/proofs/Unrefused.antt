-- What each part of a document is where nothing of it is refused.
use Rattle.std.proofs.Common.{◌≡◌, Bool, true, false, not, List, [], ◌∷◌, map, refl}
use Rattle.std.specs.Prelude.{ℕ, Option, Some, None, if◌then◌else◌, is_some, codes}
use Rattle.event_schema.specs.Lists.{EachOf, HasElement}
use Rattle.sig_base.specs.declared.limits.Limits.{Limits}
use Rattle.sig_base.specs.declared.refusal.Place.{Place}
use Rattle.sig_base.specs.declared.refusal.Refusal.{Refusal}
use Rattle.sig_base.specs.Judged.{refusal, must, first}
use Rattle.sig_base.proofs.Checks.{first_holds, must_holds, not_holds}
use Rattle.yaml_tree.specs.Nodes.{place_of, is_empty, is_text, text_in, entries_in, parts_in, value_in, refused_by}
use Rattle.yaml_tree.specs.Texts.{HasScalarTexts}
use Rattle.yaml_tree.specs.Tree.{Tree, Member}
use Rattle.rule_detections.specs.Items.{item_refusal}
use Rattle.pipeline_check.specs.Causes.{is_before, sooner, sooner_of, least, worded}
use Rattle.pipeline_model.specs.Checks as spec
use Rattle.pipeline_check.specs.Shapes.{list_refusal, map_refusal, some_refusal, type_in, vars_refusal}
use Rattle.pipeline_check.specs.Words.{kind_of}
use Rattle.pipeline_run.proofs.Lists.{each_both, each_map, each_back, some_map}
use Rattle.pipeline_run.proofs.ScalarTexts.{IsScalarMember, each_entry, each_part, found_entry}

-- ---- tables

abbrev Passes : Option Refusal → Type 0
Passes check = check ≡ None

pub first_each : {A : Type 0} (f : A → Option Refusal) (xs : List A) → first (map f xs) ≡ None → EachOf (λ x. f x ≡ None) xs
first_each f [] none = tt
first_each f (x ∷ xs) none =
    let parts = first_holds (f x) (map f xs) none in
    (parts.0, first_each f xs parts.1)

sooner_none : (a b : Option Refusal) → sooner a b ≡ None → (a ≡ None) × (b ≡ None)
sooner_none None b none = (refl, none)
sooner_none (Some a) None none = absurd cc
sooner_none (Some a) (Some b) none = absurd (by (is_before b a) none)
  where
    by : (c : Bool) → (if c then Some b else Some a) ≡ None → ⊥
    by true none = cc
    by false none = cc

fold_none : (found : Option Refusal) (checks : List (Option Refusal)) → sooner_of found checks ≡ None → (found ≡ None) × EachOf Passes checks
fold_none found [] none = (none, tt)
fold_none found (check ∷ checks) none =
    let rest = fold_none (sooner found check) checks none in
    let both = sooner_none found check rest.0 in
    (both.0, (both.1, rest.1))

-- where no line of a table comes first, none refuses
pub all_pass : (checks : List (Option Refusal)) → least checks ≡ None → EachOf Passes checks
all_pass checks none = (fold_none None checks none).1

each_passes : {A : Type 0} (f : A → Option Refusal) (xs : List A) → least (map f xs) ≡ None → EachOf (λ x. f x ≡ None) xs
each_passes f xs none = each_back Passes f xs (all_pass (map f xs) none)

-- ---- lists and maps

pub filled : {A : Type 0} (place : Place) (xs : List A) → must 90 place (not (is_empty xs)) ≡ None → is_empty xs ≡ false
filled place xs none = not_holds (is_empty xs) (must_holds 90 place (not (is_empty xs)) none)

abbrev tested : (Tree → Bool) → Tree → Option Refusal
tested test t = must 90 (place_of t) (test t)

-- a value, or a list of some values, that pass a test
pub parts_are : {B : Type 0} (test : Tree → Bool) (read : Tree → B) (Q : B → Type 0) → ((t : Tree) → test t ≡ true → HasScalarTexts t → Q (read t))
    → (t : Tree) → least (some_refusal t ∷ least (map (tested test) (parts_in t)) ∷ []) ≡ None → HasScalarTexts t
    → HasElement (map read (parts_in t)) × EachOf Q (map read (parts_in t))
parts_are test read Q holds t none texts =
    let lines = all_pass (some_refusal t ∷ least (map (tested test) (parts_in t)) ∷ []) none in
    let passed : EachOf (λ u. tested test u ≡ None) (parts_in t) = each_passes (tested test) (parts_in t) lines.1.0 in (
      some_map read (parts_in t) (filled (place_of t) (parts_in t) lines.0),
      each_map (λ u. Q (read u)) Q read (λ u is. is) (parts_in t)
          (each_both (λ u. tested test u ≡ None) HasScalarTexts (λ u. Q (read u)) (λ u passes scalars. holds u (must_holds 90 (place_of u) (test u) passes) scalars)
          (parts_in t) passed (each_part t texts)),
    )

-- a map of which no value is refused
pub entries_are : {B : Type 0} (judge : Tree → Option Refusal) (read : Member → B) (Q : B → Type 0)
    → ((e : Member) → judge e.value ≡ None → HasScalarTexts e.value → Q (read e))
    → (t : Tree) → least (map_refusal t ∷ least (map (λ e. judge e.value) (entries_in t)) ∷ []) ≡ None → HasScalarTexts t
    → EachOf Q (map read (entries_in t))
entries_are judge read Q holds t none texts =
    let checks : List (Option Refusal) = map (λ e. judge e.value) (entries_in t) in
    let lines = all_pass (map_refusal t ∷ least checks ∷ []) none in
    each_map (λ e. Q (read e)) Q read (λ e is. is) (entries_in t)
    (each_both (λ e. judge e.value ≡ None) IsScalarMember (λ e. Q (read e)) (λ e passes scalars. holds e passes scalars.1)
    (entries_in t) (each_passes (λ e. judge e.value) (entries_in t) lines.1.0) (each_entry t texts))

-- ---- steps

kind_known : (t : Tree) → spec.kind_refusal t ≡ None → is_some (spec.kind_in t) ≡ true
kind_known t none = by (is_text t) (kind_of (text_in t)) (refusal 90 (place_of t)) (worded 91 (place_of t) (text_in t)) none
  where
    by : {K : Type 0} (b : Bool) (o : Option K) (r s : Refusal) → (if not b then Some r else if is_some o then None else Some s) ≡ None → is_some (if b then o else None) ≡ true
    by true None r s none = absurd cc
    by true (Some kind) r s none = refl
    by false o r s none = absurd cc

kind_given : (place : Place) (o : Option Tree) → spec.kind_refusal_if place o ≡ None → is_some (spec.kind_if o) ≡ true
kind_given place None none = absurd cc
kind_given place (Some t) none = kind_known t none

-- a step of which nothing is refused has a type, and is allowed under it
pub record IsAllowed (unbuilt : List Place) (limits : Limits) (t : Tree) : Type 0 where
  pub typed : is_some (spec.kind_at t) ≡ true
  pub needed : spec.needed_refusal (spec.kind_at t) t ≡ None
  pub entries : EachOf (λ e. spec.entry_refusal (spec.chosen_in (entries_in t)) (spec.kind_at t) e ≡ None) (entries_in t)
  pub items : EachOf (λ e. item_refusal unbuilt limits e ≡ None) (spec.added_in t)

step_allowed : (unbuilt : List Place) (limits : Limits) (t : Tree) → spec.step_refusal t ≡ None → spec.items_refusal unbuilt limits t ≡ None → IsAllowed unbuilt limits t
step_allowed unbuilt limits t none items =
    let kind = spec.kind_at t in
    let lines = all_pass (map_refusal t ∷ spec.typed_refusal t ∷ spec.needed_refusal kind t ∷ spec.entries_refusal kind t ∷ []) none in
    record {
      typed = kind_given (place_of t) (type_in t) lines.1.0;
      needed = lines.1.1.0;
      entries = each_passes (spec.entry_refusal (spec.chosen_in (entries_in t)) kind) (entries_in t) lines.1.1.1.0;
      items = each_passes (item_refusal unbuilt limits) (spec.added_in t) items;
    }

-- what stands at a key of a step isn't refused under the type that a word names
pub key_passes : (word key : List ℕ) (t v : Tree) → EachOf (λ e. spec.entry_refusal (spec.chosen_in (entries_in t)) (kind_of word) e ≡ None) (entries_in t)
    → value_in key (entries_in t) ≡ Some v → (p : Place) × (spec.keyed_refusal (spec.chosen_in (entries_in t)) (kind_of word) key p v ≡ None)
key_passes word key t v each found =
    found_entry (λ k p u. spec.keyed_refusal (spec.chosen_in (entries_in t)) (kind_of word) k p u ≡ None) key (entries_in t) v each found

steps_allowed : (unbuilt : List Place) (limits : Limits) (o : Option Tree) → refused_by spec.steps_refusal o ≡ None
    → EachOf (λ t. spec.items_refusal unbuilt limits t ≡ None) (spec.parts_if o) → EachOf (IsAllowed unbuilt limits) (spec.parts_if o)
steps_allowed unbuilt limits None none items = tt
steps_allowed unbuilt limits (Some t) none items =
    let lines = all_pass (list_refusal t ∷ least (map spec.step_refusal (parts_in t)) ∷ spec.ids_refusal (parts_in t) ∷ []) none in
    each_both (λ u. spec.step_refusal u ≡ None) (λ u. spec.items_refusal unbuilt limits u ≡ None) (IsAllowed unbuilt limits) (step_allowed unbuilt limits) (parts_in t)
    (each_passes spec.step_refusal (parts_in t) lines.1.0) items

-- ---- the pipeline

shape_passes : (unbuilt : List Place) (limits : Limits) (t : Tree) → spec.pipeline_refusal unbuilt limits t ≡ None
    → (spec.shape_refusal t ≡ None) × (spec.all_items_refusal unbuilt limits t ≡ None)
shape_passes unbuilt limits t none = sooner_none (spec.shape_refusal t) (spec.all_items_refusal unbuilt limits t) none

pub steps_pass : (unbuilt : List Place) (limits : Limits) (t : Tree) → spec.pipeline_refusal unbuilt limits t ≡ None → EachOf (IsAllowed unbuilt limits) (spec.steps_in t)
steps_pass unbuilt limits t none =
    let both = shape_passes unbuilt limits t none in
    let lines = all_pass (map_refusal t ∷ least (map spec.top_entry (entries_in t)) ∷ spec.steps_refusal_at t ∷ []) both.0 in
    steps_allowed unbuilt limits (value_in (codes "transformations") (entries_in t)) lines.1.1.0
    (each_passes (spec.items_refusal unbuilt limits) (spec.steps_in t) both.1)

pub vars_pass : (unbuilt : List Place) (limits : Limits) (t v : Tree) → spec.pipeline_refusal unbuilt limits t ≡ None → value_in (codes "vars") (entries_in t) ≡ Some v
    → vars_refusal v ≡ None
vars_pass unbuilt limits t v none found =
    let both = shape_passes unbuilt limits t none in
    let lines = all_pass (map_refusal t ∷ least (map spec.top_entry (entries_in t)) ∷ spec.steps_refusal_at t ∷ []) both.0 in
    let entries = each_passes spec.top_entry (entries_in t) lines.1.0 in
    (found_entry (λ k p u. spec.top_refusal k p u ≡ None) (codes "vars") (entries_in t) v entries found).1
