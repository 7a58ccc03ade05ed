-- What pipelines make of a rule (pySigma, processing pipelines): their steps one after another, each on the rule that the one
-- before it made.
use Rattle.std.specs.Prelude.{◌≡◌, ⊤, List, [], ◌∷◌, if◌then◌else◌, Option, None, Some, Result, Ok, Err}
use Rattle.rule_model.specs.Plain.{PlainRule, rule_view}
use Rattle.rule_model.specs.declared.rule.Rule.{Rule}
use Rattle.sig_base.specs.declared.limits.Limits.{Limits}
use Rattle.sig_base.specs.declared.refusal.Fault.{Fault}
use Rattle.sig_base.specs.declared.refusal.Fault.TheVariants.{Memory, Refused}
use Rattle.sig_base.specs.declared.refusal.Refusal.{Refusal}
use Rattle.pipeline_model.specs.Concerned.{acts_on}
use Rattle.pipeline_model.specs.declared.pipeline.Pipeline.{Pipeline}
use Rattle.pipeline_model.specs.declared.pipeline.Var.{Var}
use Rattle.pipeline_model.specs.declared.step.Action.{Action}
use Rattle.pipeline_model.specs.declared.step.Action.TheVariants.{MapNames, Prefix, Suffix, MapPrefixes, Drop, Add, Source, MapTexts, FillHoles, WildHoles, FailRule, FailItem}
use Rattle.pipeline_model.specs.declared.step.Step.{Step}
use Rattle.pipeline_rename.specs.Names.{names_for}
use Rattle.pipeline_rename.specs.Renamed.{renamed}
use Rattle.pipeline_limits.specs.Sizes.{grown_refusal}
use Rattle.pipeline_edit.specs.Steps as steps
use Rattle.pipeline_fill.specs.Changed as values
use Rattle.pipeline_fill.specs.Grown as values_grown

-- ---- one step, on a rule that it acts on

-- what it makes of the rule: other names, another rule, or other tests
abbrev pub acted : List Var → Step → Action → PlainRule → PlainRule
acted vars step (MapNames pairs) rule = renamed (names_for step) rule
acted vars step (Prefix front) rule = renamed (names_for step) rule
acted vars step (Suffix back) rule = renamed (names_for step) rule
acted vars step (MapPrefixes pairs) rule = renamed (names_for step) rule
acted vars step Drop rule = steps.changed step rule
acted vars step (Add items negated) rule = steps.changed step rule
acted vars step (Source source) rule = steps.changed step rule
acted vars step (FailRule message) rule = steps.changed step rule
acted vars step (FailItem message) rule = steps.changed step rule
acted vars step (MapTexts pairs) rule = values.changed vars step rule
acted vars step (FillHoles choice) rule = values.changed vars step rule
acted vars step (WildHoles choice) rule = values.changed vars step rule

-- why it makes nothing of the rule, with the codes 95 to 99
abbrev pub act_refusal : Limits → List Var → Step → Action → PlainRule → Option Refusal
act_refusal limits vars step (MapNames pairs) rule = grown_refusal limits rule.head.place (renamed (names_for step) rule).detections
act_refusal limits vars step (Prefix front) rule = grown_refusal limits rule.head.place (renamed (names_for step) rule).detections
act_refusal limits vars step (Suffix back) rule = grown_refusal limits rule.head.place (renamed (names_for step) rule).detections
act_refusal limits vars step (MapPrefixes pairs) rule = grown_refusal limits rule.head.place (renamed (names_for step) rule).detections
act_refusal limits vars step Drop rule = steps.change_refusal limits step rule
act_refusal limits vars step (Add items negated) rule = steps.change_refusal limits step rule
act_refusal limits vars step (Source source) rule = steps.change_refusal limits step rule
act_refusal limits vars step (FailRule message) rule = steps.change_refusal limits step rule
act_refusal limits vars step (FailItem message) rule = steps.change_refusal limits step rule
act_refusal limits vars step (MapTexts pairs) rule = values_grown.change_refusal limits vars step rule.head.place rule.detections
act_refusal limits vars step (FillHoles choice) rule = values_grown.change_refusal limits vars step rule.head.place rule.detections
act_refusal limits vars step (WildHoles choice) rule = values_grown.change_refusal limits vars step rule.head.place rule.detections

-- ---- one after another, up to the first refusal

-- the rule that is made, unless it's refused
abbrev pub made_unless : Option Refusal → PlainRule → Result PlainRule Refusal
made_unless None made = Ok made
made_unless (Some r) made = Err r

abbrev pub and_then : Result PlainRule Refusal → (PlainRule → Result PlainRule Refusal) → Result PlainRule Refusal
and_then (Ok made) next = next made
and_then (Err r) next = Err r

-- a step leaves rules of other log sources as they are
abbrev pub run_step : Limits → List Var → Step → PlainRule → Result PlainRule Refusal
run_step limits vars step rule =
    if acts_on step rule.source then made_unless (act_refusal limits vars step step.action rule) (acted vars step step.action rule) else Ok rule

-- with the values that these variables give placeholders
abbrev pub run_steps : Limits → List Var → List Step → PlainRule → Result PlainRule Refusal
run_steps limits vars [] rule = Ok rule
run_steps limits vars (step ∷ others) rule = and_then (run_step limits vars step rule) (run_steps limits vars others)

-- each pipeline with its own variables
abbrev pub run_pipelines : Limits → List Pipeline → PlainRule → Result PlainRule Refusal
run_pipelines limits [] rule = Ok rule
run_pipelines limits (p ∷ ps) rule = and_then (run_steps limits p.vars p.steps rule) (run_pipelines limits ps)

-- they make this rule of the other
abbrev pub Makes : Limits → List Pipeline → PlainRule → PlainRule → Type 0
Makes limits ps rule made = run_pipelines limits ps rule ≡ Ok made

-- what a call answers that makes a rule; want of memory is free
abbrev pub Gives : Result PlainRule Refusal → Result Rule Fault → Type 0
Gives wanted (Ok made) = wanted ≡ Ok (rule_view made)
Gives wanted (Err (Refused r)) = wanted ≡ Err r
Gives wanted (Err Memory) = ⊤
