-- The rule's head stays, and the entries that it keeps as they are decide nothing.
use Rattle.std.proofs.Common.{◌≡◌, Bool, true, false, List, [], ◌∷◌, refl, ap, ◌∙◌}
use Rattle.std.specs.Prelude.{if◌then◌else◌, Option, None, Some, Result, Ok, Err, ⊤}
use Rattle.event_schema.specs.Lists.{EachOf}
use Rattle.rule_model.specs.Plain.{PlainRule, rule_with}
use Rattle.sig_base.specs.Judged.{first}
use Rattle.sig_base.specs.declared.limits.Limits.{Limits}
use Rattle.sig_base.specs.declared.refusal.Refusal.{Refusal}
use Rattle.yaml_tree.specs.Tree.{Member}
use Rattle.pipeline_model.specs.Concerned.{acts_on}
use Rattle.pipeline_model.specs.declared.pipeline.Pipeline.{Pipeline}
use Rattle.pipeline_model.specs.declared.pipeline.Var.{Var}
use Rattle.pipeline_model.specs.declared.step.Action.{Action}
use Rattle.pipeline_model.specs.declared.step.Action.TheVariants.{MapNames, Prefix, Suffix, MapPrefixes, Drop, Add, Source, MapTexts, FillHoles, WildHoles, FailRule, FailItem}
use Rattle.pipeline_model.specs.declared.step.Step.{Step}
use Rattle.pipeline_limits.specs.Sizes.{grown_refusal}
use Rattle.pipeline_edit.specs.Steps as steps
use Rattle.pipeline_run.specs.Chained.{acted, act_refusal, made_unless, and_then, run_step, run_steps, run_pipelines}
use Rattle.pipeline_run.proofs.Keeping.{pipelines_keep}

-- ---- the head

other_steps_keep : (step : Step) (action : Action) (rule : PlainRule) → (steps.acted step action rule).head ≡ rule.head
other_steps_keep step (MapNames pairs) rule = refl
other_steps_keep step (Prefix front) rule = refl
other_steps_keep step (Suffix back) rule = refl
other_steps_keep step (MapPrefixes pairs) rule = refl
other_steps_keep step Drop rule = refl
other_steps_keep step (Add items negated) rule = refl
other_steps_keep step (Source source) rule = refl
other_steps_keep step (FailRule message) rule = refl
other_steps_keep step (FailItem message) rule = refl
other_steps_keep step (MapTexts pairs) rule = refl
other_steps_keep step (FillHoles choice) rule = refl
other_steps_keep step (WildHoles choice) rule = refl

keeps_head : (vars : List Var) (step : Step) (action : Action) (rule : PlainRule) → (acted vars step action rule).head ≡ rule.head
keeps_head vars step (MapNames pairs) rule = refl
keeps_head vars step (Prefix front) rule = refl
keeps_head vars step (Suffix back) rule = refl
keeps_head vars step (MapPrefixes pairs) rule = refl
keeps_head vars step Drop rule = other_steps_keep step step.action rule
keeps_head vars step (Add items negated) rule = other_steps_keep step step.action rule
keeps_head vars step (Source source) rule = other_steps_keep step step.action rule
keeps_head vars step (FailRule message) rule = other_steps_keep step step.action rule
keeps_head vars step (FailItem message) rule = other_steps_keep step step.action rule
keeps_head vars step (MapTexts pairs) rule = refl
keeps_head vars step (FillHoles choice) rule = refl
keeps_head vars step (WildHoles choice) rule = refl

nothing_of_steps : (steps : List Step) → EachOf (λ (step : Step). ⊤) steps
nothing_of_steps [] = tt
nothing_of_steps (step ∷ steps) = (tt, nothing_of_steps steps)

nothing_of : (ps : List Pipeline) → EachOf (λ (p : Pipeline). EachOf (λ (step : Step). ⊤) p.steps) ps
nothing_of [] = tt
nothing_of (p ∷ ps) = (nothing_of_steps p.steps, nothing_of ps)

pub head_stays : (limits : Limits) (ps : List Pipeline) (rule made : PlainRule) → run_pipelines limits ps rule ≡ Ok made → made.head ≡ rule.head
head_stays limits ps rule made is =
    pipelines_keep limits (λ (vars : List Var) (action : Action). ⊤) (λ (r : PlainRule). r.head ≡ rule.head)
    (λ vars step r able same none. keeps_head vars step step.action r ∙ same) ps rule made (nothing_of ps) refl is

-- ---- the rule with other entries

module _ (rest : List Member) where
  steps_make : (step : Step) (action : Action) (rule : PlainRule) → steps.acted step action (rule_with rest rule) ≡ rule_with rest (steps.acted step action rule)
  steps_make step (MapNames pairs) rule = refl
  steps_make step (Prefix front) rule = refl
  steps_make step (Suffix back) rule = refl
  steps_make step (MapPrefixes pairs) rule = refl
  steps_make step Drop rule = refl
  steps_make step (Add items negated) rule = refl
  steps_make step (Source source) rule = refl
  steps_make step (FailRule message) rule = refl
  steps_make step (FailItem message) rule = refl
  steps_make step (MapTexts pairs) rule = refl
  steps_make step (FillHoles choice) rule = refl
  steps_make step (WildHoles choice) rule = refl

  steps_cause : (step : Step) (action : Action) (rule : PlainRule) → steps.cause step action (rule_with rest rule) ≡ steps.cause step action rule
  steps_cause step (MapNames pairs) rule = refl
  steps_cause step (Prefix front) rule = refl
  steps_cause step (Suffix back) rule = refl
  steps_cause step (MapPrefixes pairs) rule = refl
  steps_cause step Drop rule = refl
  steps_cause step (Add items negated) rule = refl
  steps_cause step (Source source) rule = refl
  steps_cause step (FailRule message) rule = refl
  steps_cause step (FailItem message) rule = refl
  steps_cause step (MapTexts pairs) rule = refl
  steps_cause step (FillHoles choice) rule = refl
  steps_cause step (WildHoles choice) rule = refl

  steps_refuse : (limits : Limits) (step : Step) (rule : PlainRule) → steps.change_refusal limits step (rule_with rest rule) ≡ steps.change_refusal limits step rule
  steps_refuse limits step rule =
      ap (λ (cause : Option Refusal). first (cause ∷ grown_refusal limits rule.head.place (steps.changed step (rule_with rest rule)).detections ∷ [])) (steps_cause step step.action rule)
      ∙ ap (λ (r : PlainRule). first (steps.cause step step.action rule ∷ grown_refusal limits rule.head.place r.detections ∷ [])) (steps_make step step.action rule)

  makes : (vars : List Var) (step : Step) (action : Action) (rule : PlainRule) → acted vars step action (rule_with rest rule) ≡ rule_with rest (acted vars step action rule)
  makes vars step (MapNames pairs) rule = refl
  makes vars step (Prefix front) rule = refl
  makes vars step (Suffix back) rule = refl
  makes vars step (MapPrefixes pairs) rule = refl
  makes vars step Drop rule = steps_make step step.action rule
  makes vars step (Add items negated) rule = steps_make step step.action rule
  makes vars step (Source source) rule = steps_make step step.action rule
  makes vars step (FailRule message) rule = steps_make step step.action rule
  makes vars step (FailItem message) rule = steps_make step step.action rule
  makes vars step (MapTexts pairs) rule = refl
  makes vars step (FillHoles choice) rule = refl
  makes vars step (WildHoles choice) rule = refl

  refuses : (limits : Limits) (vars : List Var) (step : Step) (action : Action) (rule : PlainRule)
      → act_refusal limits vars step action (rule_with rest rule) ≡ act_refusal limits vars step action rule
  refuses limits vars step (MapNames pairs) rule = refl
  refuses limits vars step (Prefix front) rule = refl
  refuses limits vars step (Suffix back) rule = refl
  refuses limits vars step (MapPrefixes pairs) rule = refl
  refuses limits vars step Drop rule = steps_refuse limits step rule
  refuses limits vars step (Add items negated) rule = steps_refuse limits step rule
  refuses limits vars step (Source source) rule = steps_refuse limits step rule
  refuses limits vars step (FailRule message) rule = steps_refuse limits step rule
  refuses limits vars step (FailItem message) rule = steps_refuse limits step rule
  refuses limits vars step (MapTexts pairs) rule = refl
  refuses limits vars step (FillHoles choice) rule = refl
  refuses limits vars step (WildHoles choice) rule = refl

  -- what is made, with these entries
  abbrev result_with : Result PlainRule Refusal → Result PlainRule Refusal
  result_with (Ok made) = Ok (rule_with rest made)
  result_with (Err r) = Err r

  made_with : (cause : Option Refusal) (made : PlainRule) → made_unless cause (rule_with rest made) ≡ result_with (made_unless cause made)
  made_with None made = refl
  made_with (Some r) made = refl

  then_with : (one : Result PlainRule Refusal) (next : PlainRule → Result PlainRule Refusal) → ((made : PlainRule) → next (rule_with rest made) ≡ result_with (next made))
      → and_then (result_with one) next ≡ result_with (and_then one next)
  then_with (Ok made) next same = same made
  then_with (Err r) next same = refl

  step_with : (limits : Limits) (vars : List Var) (step : Step) (rule : PlainRule) → run_step limits vars step (rule_with rest rule) ≡ result_with (run_step limits vars step rule)
  step_with limits vars step rule = by (acts_on step rule.source)
    where
      by : (b : Bool)
          → (if b then made_unless (act_refusal limits vars step step.action (rule_with rest rule)) (acted vars step step.action (rule_with rest rule)) else Ok (rule_with rest rule))
          ≡ result_with (if b then made_unless (act_refusal limits vars step step.action rule) (acted vars step step.action rule) else Ok rule)
      by true =
          ap (λ (cause : Option Refusal). made_unless cause (acted vars step step.action (rule_with rest rule))) (refuses limits vars step step.action rule)
          ∙ ap (λ (r : PlainRule). made_unless (act_refusal limits vars step step.action rule) r) (makes vars step step.action rule)
          ∙ made_with (act_refusal limits vars step step.action rule) (acted vars step step.action rule)
      by false = refl

  steps_with : (limits : Limits) (vars : List Var) (steps : List Step) (rule : PlainRule)
      → run_steps limits vars steps (rule_with rest rule) ≡ result_with (run_steps limits vars steps rule)
  steps_with limits vars [] rule = refl
  steps_with limits vars (step ∷ steps) rule =
      ap (λ (r : Result PlainRule Refusal). and_then r (run_steps limits vars steps)) (step_with limits vars step rule)
      ∙ then_with (run_step limits vars step rule) (run_steps limits vars steps) (steps_with limits vars steps)

  pipelines_with : (limits : Limits) (ps : List Pipeline) (rule : PlainRule) → run_pipelines limits ps (rule_with rest rule) ≡ result_with (run_pipelines limits ps rule)
  pipelines_with limits [] rule = refl
  pipelines_with limits (p ∷ ps) rule =
      ap (λ (r : Result PlainRule Refusal). and_then r (run_pipelines limits ps)) (steps_with limits p.vars p.steps rule)
      ∙ then_with (run_steps limits p.vars p.steps rule) (run_pipelines limits ps) (pipelines_with limits ps)

  pub with_made : (limits : Limits) (ps : List Pipeline) (rule made : PlainRule) → run_pipelines limits ps rule ≡ Ok made
      → run_pipelines limits ps (rule_with rest rule) ≡ Ok (rule_with rest made)
  with_made limits ps rule made is = pipelines_with limits ps rule ∙ ap result_with is

  pub with_refused : (limits : Limits) (ps : List Pipeline) (rule : PlainRule) (r : Refusal) → run_pipelines limits ps rule ≡ Err r
      → run_pipelines limits ps (rule_with rest rule) ≡ Err r
  with_refused limits ps rule r is = pipelines_with limits ps rule ∙ ap result_with is
