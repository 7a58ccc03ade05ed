-- Pipelines of steps on names.
use Rattle.std.proofs.Common.{◌≡◌, ◌↔◌, Bool, true, false, List, [], ◌∷◌, ◌++◌, refl, sym, ap, subst, ◌∙◌}
use Rattle.std.specs.Prelude.{if◌then◌else◌, Ok}
use Rattle.std.specs.List.{list_all}
use Rattle.std.proofs.lemmas.Bool.{and_parts, and_from}
use Rattle.event_schema.specs.declared.schema.Field.{Field}
use Rattle.event_schema.specs.declared.value.Value.{Value}
use Rattle.rule_model.specs.Matching.{Matches}
use Rattle.rule_model.specs.Plain.{PlainRule}
use Rattle.sig_base.specs.declared.limits.Limits.{Limits}
use Rattle.pipeline_model.specs.Concerned.{acts_on}
use Rattle.pipeline_model.specs.declared.pipeline.Pipeline.{Pipeline}
use Rattle.pipeline_model.specs.declared.pipeline.Var.{Var}
use Rattle.pipeline_model.specs.declared.step.Action.{Action}
use Rattle.pipeline_model.specs.declared.step.Action.TheVariants.{MapNames, Prefix, Suffix, MapPrefixes, Drop, Add, Source, MapTexts, FillHoles, WildHoles, FailRule, FailItem}
use Rattle.pipeline_model.specs.declared.step.Step.{Step}
use Rattle.pipeline_rename.specs.Names.{names_for}
use Rattle.pipeline_rename.specs.Renamed.{renamed}
use Rattle.pipeline_run.specs.ReadAs.{MatchesAs, itself, step_renamed, steps_renamed, steps_view}
use Rattle.pipeline_run.specs.Chained.{acted, act_refusal, made_unless, run_step, run_steps, run_pipelines}
use Rattle.pipeline_run.specs.View.{is_on_names, steps_of, are_on_names, view}
use Rattle.pipeline_run.proofs.Keeping.{same_made, goes, unrefused}

-- ---- lists

are_both : (xs ys : List Step) → list_all (λ (step : Step). is_on_names step.action) (xs ++ ys) ≡ true
    → (list_all (λ (step : Step). is_on_names step.action) xs ≡ true) × (list_all (λ (step : Step). is_on_names step.action) ys ≡ true)
are_both [] ys all = (refl, all)
are_both (x ∷ xs) ys all =
    let both = and_parts (is_on_names x.action) (list_all (λ (step : Step). is_on_names step.action) (xs ++ ys)) all in
    let rest = are_both xs ys both.1 in
    (and_from (is_on_names x.action) (list_all (λ (step : Step). is_on_names step.action) xs) both.0 rest.0, rest.1)

renamed_on : (xs ys : List Step) (rule : PlainRule) → steps_renamed (xs ++ ys) rule ≡ steps_renamed ys (steps_renamed xs rule)
renamed_on [] ys rule = refl
renamed_on (x ∷ xs) ys rule = renamed_on xs ys (step_renamed x rule)

-- ---- what they make

action_renames : (vars : List Var) (step : Step) (action : Action) (rule : PlainRule) → is_on_names action ≡ true → acted vars step action rule ≡ renamed (names_for step) rule
action_renames vars step (MapNames pairs) rule on = refl
action_renames vars step (Prefix front) rule on = refl
action_renames vars step (Suffix back) rule on = refl
action_renames vars step (MapPrefixes pairs) rule on = refl
action_renames vars step Drop rule on = absurd cc
action_renames vars step (Add items negated) rule on = absurd cc
action_renames vars step (Source source) rule on = absurd cc
action_renames vars step (MapTexts pairs) rule on = absurd cc
action_renames vars step (FillHoles choice) rule on = absurd cc
action_renames vars step (WildHoles choice) rule on = absurd cc
action_renames vars step (FailRule message) rule on = absurd cc
action_renames vars step (FailItem message) rule on = absurd cc

step_renames : (limits : Limits) (vars : List Var) (step : Step) (rule made : PlainRule) → is_on_names step.action ≡ true → run_step limits vars step rule ≡ Ok made
    → step_renamed step rule ≡ made
step_renames limits vars step rule made on is = by (acts_on step rule.source) is
  where
    by : (b : Bool) → (if b then made_unless (act_refusal limits vars step step.action rule) (acted vars step step.action rule) else Ok rule) ≡ Ok made
        → (if b then renamed (names_for step) rule else rule) ≡ made
    by true h =
        sym (action_renames vars step step.action rule on)
        ∙ (unrefused (act_refusal limits vars step step.action rule) (acted vars step step.action rule) made h).1
    by false h = same_made (Ok rule) rule made refl h

steps_rename : (limits : Limits) (vars : List Var) (steps : List Step) (rule made : PlainRule) → list_all (λ (step : Step). is_on_names step.action) steps ≡ true
    → run_steps limits vars steps rule ≡ Ok made → steps_renamed steps rule ≡ made
steps_rename limits vars [] rule made on is = same_made (Ok rule) rule made refl is
steps_rename limits vars (step ∷ steps) rule made on is =
    let both = and_parts (is_on_names step.action) (list_all (λ (s : Step). is_on_names s.action) steps) on in
    let way = goes (run_step limits vars step rule) (run_steps limits vars steps) made is in
    ap (steps_renamed steps) (step_renames limits vars step rule way.between both.0 way.before)
    ∙ steps_rename limits vars steps way.between made both.1 way.behind

pipelines_rename : (limits : Limits) (ps : List Pipeline) (rule made : PlainRule) → are_on_names ps ≡ true → run_pipelines limits ps rule ≡ Ok made
    → steps_renamed (steps_of ps) rule ≡ made
pipelines_rename limits [] rule made on is = same_made (Ok rule) rule made refl is
pipelines_rename limits (p ∷ ps) rule made on is =
    let both = are_both p.steps (steps_of ps) on in
    let way = goes (run_steps limits p.vars p.steps rule) (run_pipelines limits ps) made is in
    renamed_on p.steps (steps_of ps) rule
    ∙ ap (steps_renamed (steps_of ps)) (steps_rename limits p.vars p.steps rule way.between both.0 way.before)
    ∙ pipelines_rename limits ps way.between made both.1 way.behind

-- ---- what that means, where steps on names mean what their view says

module _ (by_view : (steps : List Step) (rule : PlainRule) (fields : List Field) (row : List (List Value))
    → (Matches fields row (steps_renamed steps rule) ↔ MatchesAs (steps_view rule.source steps itself) fields row rule)) where
  pub are_read : (limits : Limits) (ps : List Pipeline) (rule made : PlainRule) (fields : List Field) (row : List (List Value))
      → are_on_names ps ≡ true → run_pipelines limits ps rule ≡ Ok made → (Matches fields row made ↔ MatchesAs (view ps rule.source) fields row rule)
  are_read limits ps rule made fields row on is =
      subst (λ (r : PlainRule). Matches fields row r ↔ MatchesAs (view ps rule.source) fields row rule) (pipelines_rename limits ps rule made on is)
      (by_view (steps_of ps) rule fields row)
