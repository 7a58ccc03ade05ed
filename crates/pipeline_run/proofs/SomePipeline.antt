-- A document of which nothing is refused is some pipeline.
use Rattle.std.proofs.Common.{◌≡◌, List, refl}
use Rattle.std.specs.Prelude.{ℕ, None, IfSome, codes, map as list_map}
use Rattle.modifier_words.specs.Written.{Written}
use Rattle.event_schema.specs.Lists.{EachOf}
use Rattle.sig_base.specs.declared.limits.Limits.{Limits}
use Rattle.sig_base.specs.declared.refusal.Place.{Place}
use Rattle.rule_detections.specs.TestsOf.{TestsOf, value_refusal}
use Rattle.rule_detections.specs.declared.test.Test.{Test}
use Rattle.yaml_tree.specs.Nodes.{place_of, entries_at, text_at}
use Rattle.yaml_tree.specs.Tree.{Tree}
use Rattle.rule_head.specs.Sources.{source_of}
use Rattle.rule_detections.specs.Items.{IsItem, item_refusal}
use Rattle.pipeline_model.specs.Checks.{kind_at, added_by, added_in, steps_in, pipeline_refusal}
use Rattle.pipeline_model.specs.Pipelines.{text_or_none, priority_of, is_negated, is_or_at, var_of, pairs_at, choice_at, IsAdded, IsAction, sources_at, conds_at, IsStep, IsPipeline}
use Rattle.pipeline_model.specs.declared.pipeline.Pipeline.{Pipeline}
use Rattle.pipeline_model.specs.declared.step.Action.{Action}
use Rattle.pipeline_model.specs.declared.step.Action.TheVariants as actions
use Rattle.pipeline_model.specs.declared.step.Step.{Step}
use Rattle.rule_model.proofs.SomeRule.{there}
use Rattle.pipeline_run.proofs.AddedItems.{item_some}
use Rattle.pipeline_run.proofs.ByType.{by_type, at_type}
use Rattle.pipeline_run.proofs.Lists.{zip_made}
use Rattle.pipeline_run.proofs.Unrefused.{IsAllowed, steps_pass}

module _ (unbuilt : List Place)
    (tests_some : (most dashes : ℕ) (chain : Written) (value : Tree) → value_refusal unbuilt most dashes chain value ≡ None → (tests : List Test) × TestsOf chain value tests)
    (limits : Limits) where
  items_some : (t : Tree) → EachOf (λ e. item_refusal unbuilt limits e ≡ None) (entries_at (codes "conditions") t) → (action : Action) × IsAdded t action
  items_some t passes =
      let all = zip_made (λ e. item_refusal unbuilt limits e ≡ None) IsItem (item_some unbuilt tests_some limits) (entries_at (codes "conditions") t) passes in
      (actions.Add all.0 (is_negated t), record { items = all.0; are_items = all.1; action_is = refl })

  action_some : (t : Tree) → EachOf (λ e. item_refusal unbuilt limits e ≡ None) (added_in t) → IfSome (kind_at t) (λ kind. (action : Action) × IsAction kind t action)
  action_some t =
      by_type (λ o. EachOf (λ e. item_refusal unbuilt limits e ≡ None) (added_by o t) → IfSome o (λ kind. (action : Action) × IsAction kind t action)) (λ items. tt)
      (λ items. (actions.MapNames (pairs_at t), refl))
      (λ items. (actions.Prefix (text_or_none (codes "prefix") t), refl))
      (λ items. (actions.Suffix (text_or_none (codes "suffix") t), refl))
      (λ items. (actions.MapPrefixes (pairs_at t), refl))
      (λ items. (actions.Drop, refl))
      (items_some t)
      (λ items. (actions.Source (source_of t), refl))
      (λ items. (actions.MapTexts (pairs_at t), refl))
      (λ items. (actions.FillHoles (choice_at t), refl))
      (λ items. (actions.WildHoles (choice_at t), refl))
      (λ items. (actions.FailRule (text_or_none (codes "message") t), refl))
      (λ items. (actions.FailItem (text_or_none (codes "message") t), refl))
      t

  step_some : (t : Tree) → IsAllowed unbuilt limits t → (step : Step) × IsStep t step
  step_some t allowed =
      let kind = there (kind_at t) allowed.typed in
      let made = at_type (kind_at t) _ kind.0 kind.1 (action_some t allowed.items) in (
        record {
          id = text_at (codes "id") t;
          action = made.0;
          rule_conds = sources_at t;
          rule_any = is_or_at (codes "rule_cond_op") t;
          field_conds = conds_at t;
          field_any = is_or_at (codes "field_name_cond_op") t;
          place = place_of t;
        },
        record {
          kind = kind.0;
          kind_is = kind.1;
          action = made.1;
          conditions = record { id = refl; rule_conds = refl; rule_any = refl; field_conds = refl; field_any = refl; place = refl };
        },
      )

  pub pipeline_some : (t : Tree) → pipeline_refusal unbuilt limits t ≡ None → (pipeline : Pipeline) × IsPipeline t pipeline
  pipeline_some t none =
      let steps = zip_made (IsAllowed unbuilt limits) IsStep step_some (steps_in t) (steps_pass unbuilt limits t none) in (
        record { name = text_or_none (codes "name") t; priority = priority_of t; vars = list_map var_of (entries_at (codes "vars") t); steps = steps.0 },
        record { name = refl; priority = refl; vars = refl; steps = steps.1 },
      )
