-- A whole rule stays whole under whole pipelines.
use Rattle.std.proofs.Common.{◌≡◌, List}
use Rattle.std.specs.Prelude.{None, Ok}
use Rattle.event_schema.specs.Lists.{EachOf}
use Rattle.rule_model.specs.Plain.{PlainRule}
use Rattle.rule_model.specs.Whole.{IsWhole}
use Rattle.sig_base.specs.declared.limits.Limits.{Limits}
use Rattle.pipeline_model.specs.declared.pipeline.Pipeline.{Pipeline}
use Rattle.pipeline_model.specs.declared.pipeline.Var.{Var}
use Rattle.pipeline_model.specs.declared.step.Action.{Action}
use Rattle.pipeline_model.specs.declared.step.Action.TheVariants.{MapNames, Prefix, Suffix, MapPrefixes, Drop, Add, Source, MapTexts, FillHoles, WildHoles, FailRule, FailItem}
use Rattle.pipeline_model.specs.declared.step.Step.{Step}
use Rattle.pipeline_rename.specs.Kept.{MakesNames}
use Rattle.pipeline_rename.specs.Names.{names_for}
use Rattle.pipeline_rename.specs.Renamed.{renamed}
use Rattle.pipeline_limits.specs.Sizes.{grown_refusal}
use Rattle.pipeline_edit.specs.Kept.{AddsWhole}
use Rattle.pipeline_edit.specs.Steps as steps
use Rattle.pipeline_fill.specs.Changed as values
use Rattle.pipeline_fill.specs.Grown as values_grown
use Rattle.pipeline_fill.specs.Kept.{MakesTests}
use Rattle.pipeline_run.specs.Chained.{acted, act_refusal, run_pipelines}
use Rattle.pipeline_run.specs.Kept.{MakesWhole, IsWholePipeline}
use Rattle.pipeline_run.proofs.Keeping.{pipelines_keep}

-- what is known of names, of items, conditions and log sources, and of tests
module _
    (by_names : (limits : Limits) (step : Step) (rule : PlainRule) → MakesNames step.action → IsWhole rule
    → grown_refusal limits rule.head.place (renamed (names_for step) rule).detections ≡ None → IsWhole (renamed (names_for step) rule))
    (by_steps : (limits : Limits) (step : Step) (rule : PlainRule) → AddsWhole step.action → IsWhole rule
    → steps.change_refusal limits step rule ≡ None → IsWhole (steps.changed step rule))
    (by_tests : (limits : Limits) (vars : List Var) (step : Step) (rule : PlainRule) → MakesTests vars step.action → IsWhole rule
    → values_grown.change_refusal limits vars step rule.head.place rule.detections ≡ None → IsWhole (values.changed vars step rule)) where
  stays : (limits : Limits) (vars : List Var) (step : Step) (rule : PlainRule) → MakesWhole vars step.action → IsWhole rule
      → act_refusal limits vars step step.action rule ≡ None → IsWhole (acted vars step step.action rule)
  stays limits vars step rule own whole none = by step.action none
    where
      by : (action : Action) → act_refusal limits vars step action rule ≡ None → IsWhole (acted vars step action rule)
      by (MapNames pairs) none = by_names limits step rule own.names whole none
      by (Prefix front) none = by_names limits step rule own.names whole none
      by (Suffix back) none = by_names limits step rule own.names whole none
      by (MapPrefixes pairs) none = by_names limits step rule own.names whole none
      by Drop none = by_steps limits step rule own.adds whole none
      by (Add items negated) none = by_steps limits step rule own.adds whole none
      by (Source source) none = by_steps limits step rule own.adds whole none
      by (FailRule message) none = by_steps limits step rule own.adds whole none
      by (FailItem message) none = by_steps limits step rule own.adds whole none
      by (MapTexts pairs) none = by_tests limits vars step rule own.tests whole none
      by (FillHoles choice) none = by_tests limits vars step rule own.tests whole none
      by (WildHoles choice) none = by_tests limits vars step rule own.tests whole none

  pub stays_whole : (limits : Limits) (ps : List Pipeline) (rule made : PlainRule) → EachOf IsWholePipeline ps → IsWhole rule
      → run_pipelines limits ps rule ≡ Ok made → IsWhole made
  stays_whole limits ps rule made own whole is = pipelines_keep limits MakesWhole IsWhole (stays limits) ps rule made own whole is
