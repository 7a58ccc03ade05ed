-- What each step keeps, pipelines keep.
use Rattle.std.proofs.Common.{◌≡◌, Bool, true, false, List, [], ◌∷◌, refl, subst}
use Rattle.std.specs.Prelude.{if◌then◌else◌, Option, None, Some, Result, Ok, Err}
use Rattle.event_schema.specs.Lists.{EachOf}
use Rattle.rule_model.specs.Plain.{PlainRule}
use Rattle.sig_base.specs.declared.limits.Limits.{Limits}
use Rattle.sig_base.specs.declared.refusal.Refusal.{Refusal}
use Rattle.pipeline_model.specs.Concerned.{acts_on}
use Rattle.pipeline_model.specs.declared.pipeline.Pipeline.{Pipeline}
use Rattle.pipeline_model.specs.declared.pipeline.Var.{Var}
use Rattle.pipeline_model.specs.declared.step.Action.{Action}
use Rattle.pipeline_model.specs.declared.step.Step.{Step}
use Rattle.pipeline_run.specs.Chained.{acted, act_refusal, made_unless, and_then, run_step, run_steps, run_pipelines}

pub same_made : (r : Result PlainRule Refusal) (made other : PlainRule) → r ≡ Ok made → r ≡ Ok other → made ≡ other
same_made r made other one two = cc

-- a rule that one thing makes and another makes more of
pub record Goes (first : Result PlainRule Refusal) (next : PlainRule → Result PlainRule Refusal) (made : PlainRule) : Type 0 where
  pub between : PlainRule
  pub before : first ≡ Ok between
  pub behind : next between ≡ Ok made

pub goes : (first : Result PlainRule Refusal) (next : PlainRule → Result PlainRule Refusal) (made : PlainRule) → and_then first next ≡ Ok made → Goes first next made
goes (Ok between) next made is = record { between = between; before = refl; behind = is }
goes (Err r) next made is = absurd cc

-- what is made where nothing is refused
pub unrefused : (cause : Option Refusal) (meant made : PlainRule) → made_unless cause meant ≡ Ok made → (cause ≡ None) × (meant ≡ made)
unrefused None meant made is = (refl, same_made (Ok meant) meant made refl is)
unrefused (Some r) meant made is = absurd cc

-- `Able` is what is known of each step, and `Kept` what it keeps
module _ (limits : Limits) (Able : List Var → Action → Type 0) (Kept : PlainRule → Type 0)
    (keeps : (vars : List Var) (step : Step) (rule : PlainRule) → Able vars step.action → Kept rule → act_refusal limits vars step step.action rule ≡ None
    → Kept (acted vars step step.action rule)) where
  step_keeps : (vars : List Var) (step : Step) (rule made : PlainRule) → Able vars step.action → Kept rule → run_step limits vars step rule ≡ Ok made → Kept made
  step_keeps vars step rule made able kept is = by (acts_on step rule.source) is
    where
      by : (b : Bool) → (if b then made_unless (act_refusal limits vars step step.action rule) (acted vars step step.action rule) else Ok rule) ≡ Ok made → Kept made
      by true h =
          let found = unrefused (act_refusal limits vars step step.action rule) (acted vars step step.action rule) made h in
          subst Kept found.1 (keeps vars step rule able kept found.0)
      by false h = subst Kept (same_made (Ok rule) rule made refl h) kept

  steps_keep : (vars : List Var) (steps : List Step) (rule made : PlainRule) → EachOf (λ (step : Step). Able vars step.action) steps → Kept rule
      → run_steps limits vars steps rule ≡ Ok made → Kept made
  steps_keep vars [] rule made able kept is = subst Kept (same_made (Ok rule) rule made refl is) kept
  steps_keep vars (step ∷ steps) rule made able kept is =
      let way = goes (run_step limits vars step rule) (run_steps limits vars steps) made is in
      steps_keep vars steps way.between made able.1 (step_keeps vars step rule way.between able.0 kept way.before) way.behind

  pub pipelines_keep : (ps : List Pipeline) (rule made : PlainRule) → EachOf (λ (p : Pipeline). EachOf (λ (step : Step). Able p.vars step.action) p.steps) ps → Kept rule
      → run_pipelines limits ps rule ≡ Ok made → Kept made
  pipelines_keep [] rule made able kept is = subst Kept (same_made (Ok rule) rule made refl is) kept
  pipelines_keep (p ∷ ps) rule made able kept is =
      let way = goes (run_steps limits p.vars p.steps rule) (run_pipelines limits ps) made is in
      pipelines_keep ps way.between made able.1 (steps_keep p.vars p.steps rule way.between able.0 kept way.before) way.behind
