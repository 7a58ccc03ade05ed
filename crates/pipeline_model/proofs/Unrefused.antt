-- Of a document of which nothing is refused the steps have types, and the items that they add are items.
use Rattle.std.proofs.Common.{◌≡◌, Bool, true, false, List, [], ◌∷◌, map, refl, sym, ap, ◌∙◌}
use Rattle.std.specs.Prelude.{Option, Some, None, Result, if◌then◌else◌, codes}
use Rattle.sig_base.specs.declared.limits.Limits.{Limits}
use Rattle.sig_base.specs.declared.refusal.Place.{Place}
use Rattle.sig_base.specs.declared.refusal.Refusal.{Refusal}
use Rattle.sig_base.specs.declared.refusal.Fault.{Fault}
use Rattle.sig_base.specs.Judged.{first, Judged}
use Rattle.sig_base.proofs.Checks.{skips, first_holds, judged_last}
use Rattle.yaml_tree.specs.Tree.{Tree}
use Rattle.yaml_tree.specs.Nodes.{entries_in, parts_in, value_in, refused_by}
use Rattle.rule_detections.specs.Items.{item_refusal}
use Rattle.pipeline_check.specs.Causes.{is_before, sooner, sooner_of, least}
use Rattle.pipeline_check.specs.Shapes.{map_refusal, list_refusal}
use Rattle.pipeline_model.specs.Checks as spec
use Rattle.pipeline_model.specs.declared.pipeline.Pipeline.{Pipeline}
use Rattle.pipeline_model.specs.Pipelines.{IsPipeline}
use Rattle.pipeline_model.specs.Reading.{items_cause, step_cause, steps_cause}

sooner_none : (a b : Option Refusal) → sooner a b ≡ None → (a ≡ None) × (b ≡ None)
sooner_none None b none = (refl, none)
sooner_none (Some a) None none = absurd cc
sooner_none (Some a) (Some b) none = absurd (by (is_before b a) none)
  where
    by : (c : Bool) → (if c then Some b else Some a) ≡ None → ⊥
    by true none = cc
    by false none = cc

fold_none : (found : Option Refusal) (checks : List (Option Refusal)) → sooner_of found checks ≡ None → (found ≡ None) × (first checks ≡ None)
fold_none found [] none = (none, refl)
fold_none found (check ∷ checks) none =
    let rest = fold_none (sooner found check) checks none in
    let both = sooner_none found check rest.0 in
    (both.0, skips check checks both.1 ∙ rest.1)

-- where no line of a table refuses, none comes first in its order either
least_none : (checks : List (Option Refusal)) → least checks ≡ None → first checks ≡ None
least_none checks none = (fold_none None checks none).1

first_both : {A : Type 0} (f g h : A → Option Refusal) → ((x : A) → f x ≡ None → g x ≡ None → h x ≡ None)
    → (xs : List A) → first (map f xs) ≡ None → first (map g xs) ≡ None → first (map h xs) ≡ None
first_both f g h one [] fs gs = refl
first_both f g h one (x ∷ xs) fs gs =
    let a = first_holds (f x) (map f xs) fs in
    let b = first_holds (g x) (map g xs) gs in
    skips (h x) (map h xs) (one x a.0 b.0) ∙ first_both f g h one xs a.1 b.1

step_passes : (unbuilt : List Place) (limits : Limits) (t : Tree) → spec.step_refusal t ≡ None → spec.items_refusal unbuilt limits t ≡ None → step_cause unbuilt limits t ≡ None
step_passes unbuilt limits t none items =
    let kind = spec.kind_at t in
    let lines = first_holds (map_refusal t) (spec.typed_refusal t ∷ spec.needed_refusal kind t ∷ spec.entries_refusal kind t ∷ [])
    (least_none (map_refusal t ∷ spec.typed_refusal t ∷ spec.needed_refusal kind t ∷ spec.entries_refusal kind t ∷ []) none) in
    let typed = first_holds (spec.typed_refusal t) (spec.needed_refusal kind t ∷ spec.entries_refusal kind t ∷ []) lines.1 in
    skips (spec.typed_refusal t) (items_cause unbuilt limits t ∷ []) typed.0
    ∙ skips (items_cause unbuilt limits t) [] (least_none (map (item_refusal unbuilt limits) (spec.added_in t)) items)

all_pass : (unbuilt : List Place) (limits : Limits) (o : Option Tree) → refused_by spec.steps_refusal o ≡ None → first (map (spec.items_refusal unbuilt limits) (spec.parts_if o)) ≡ None
    → first (map (step_cause unbuilt limits) (spec.parts_if o)) ≡ None
all_pass unbuilt limits None none items = refl
all_pass unbuilt limits (Some t) none items =
    let steps = least (map spec.step_refusal (parts_in t)) in
    let ids = spec.ids_refusal (parts_in t) in
    let lines = first_holds (list_refusal t) (steps ∷ ids ∷ []) (least_none (list_refusal t ∷ steps ∷ ids ∷ []) none) in
    let each = first_holds steps (ids ∷ []) lines.1 in
    first_both spec.step_refusal (spec.items_refusal unbuilt limits) (step_cause unbuilt limits) (step_passes unbuilt limits) (parts_in t)
    (least_none (map spec.step_refusal (parts_in t)) each.0) items

pub nothing_left : (unbuilt : List Place) (limits : Limits) (t : Tree) → spec.pipeline_refusal unbuilt limits t ≡ None → steps_cause unbuilt limits t ≡ None
nothing_left unbuilt limits t none =
    let entries = least (map spec.top_entry (entries_in t)) in
    let both = sooner_none (spec.shape_refusal t) (spec.all_items_refusal unbuilt limits t) none in
    let lines = first_holds (map_refusal t) (entries ∷ spec.steps_refusal_at t ∷ [])
    (least_none (map_refusal t ∷ entries ∷ spec.steps_refusal_at t ∷ []) both.0) in
    let behind = first_holds entries (spec.steps_refusal_at t ∷ []) lines.1 in
    let steps = first_holds (spec.steps_refusal_at t) [] behind.1 in
    all_pass unbuilt limits (value_in (codes "transformations") (entries_in t)) steps.0 (least_none (map (spec.items_refusal unbuilt limits) (spec.steps_in t)) both.1)

-- what is read where nothing is found to refuse
pub read_whole : (unbuilt : List Place) (limits : Limits) (t : Tree) (shape items : Option Refusal) (r : Result Pipeline Fault)
    → shape ≡ spec.shape_refusal t → items ≡ spec.all_items_refusal unbuilt limits t → None ≡ sooner shape items
    → Judged (IsPipeline t) (steps_cause unbuilt limits t) r → Judged (IsPipeline t) (spec.pipeline_refusal unbuilt limits t) r
read_whole unbuilt limits t shape items r shapes are none judged =
    let nothing : spec.pipeline_refusal unbuilt limits t ≡ None =
    sym (ap (λ (o : Option Refusal). sooner o (spec.all_items_refusal unbuilt limits t)) shapes) ∙ (sym (ap (sooner shape) are) ∙ sym none) in
    judged_last (IsPipeline t) (spec.pipeline_refusal unbuilt limits t) (steps_cause unbuilt limits t) r (nothing ∙ sym (nothing_left unbuilt limits t nothing)) judged
