-- What the steps that change a rule's items, its conditions or its log source make of it, and why they make nothing (pySigma,
-- transformations). The other steps stand here as ones that change nothing.
use Rattle.std.specs.Prelude.{[], ◌∷◌, Option, None}
use Rattle.sig_base.specs.declared.limits.Limits.{Limits}
use Rattle.sig_base.specs.declared.refusal.Refusal.{Refusal}
use Rattle.sig_base.specs.Judged.{first}
use Rattle.rule_head.specs.declared.source.LogSource.{LogSource}
use Rattle.rule_model.specs.Plain.{PlainRule}
use Rattle.pipeline_model.specs.declared.step.Action.{Action}
use Rattle.pipeline_model.specs.declared.step.Action.TheVariants.{MapNames, Prefix, Suffix, MapPrefixes, Drop, Add, Source, MapTexts, FillHoles, WildHoles, FailRule, FailItem}
use Rattle.pipeline_model.specs.declared.step.Step.{Step}
use Rattle.pipeline_limits.specs.Sizes.{grown_refusal}
use Rattle.pipeline_edit.specs.Added.{with_condition}
use Rattle.pipeline_edit.specs.Dropped.{dropped, kept_detections, emptied_refusal}
use Rattle.pipeline_edit.specs.Failed.{rule_failure, items_failure}

abbrev pub with_source : LogSource → PlainRule → PlainRule
with_source source rule = record { head = rule.head; source = source; detections = rule.detections; conditions = rule.conditions }

-- what a step of this action makes of the rule
abbrev pub acted : Step → Action → PlainRule → PlainRule
acted step Drop rule = dropped step rule
acted step (Add items negated) rule = with_condition items negated rule
acted step (Source source) rule = with_source source rule
acted step (FailRule message) rule = rule
acted step (FailItem message) rule = rule
acted step (MapNames pairs) rule = rule
acted step (Prefix front) rule = rule
acted step (Suffix back) rule = rule
acted step (MapPrefixes pairs) rule = rule
acted step (MapTexts pairs) rule = rule
acted step (FillHoles choice) rule = rule
acted step (WildHoles choice) rule = rule

abbrev pub changed : Step → PlainRule → PlainRule
changed step rule = acted step step.action rule

-- why it makes nothing, but for the size
abbrev pub cause : Step → Action → PlainRule → Option Refusal
cause step Drop rule = emptied_refusal (kept_detections step rule.detections)
cause step (Add items negated) rule = None
cause step (Source source) rule = None
cause step (FailRule message) rule = rule_failure message rule
cause step (FailItem message) rule = items_failure step message rule.detections
cause step (MapNames pairs) rule = None
cause step (Prefix front) rule = None
cause step (Suffix back) rule = None
cause step (MapPrefixes pairs) rule = None
cause step (MapTexts pairs) rule = None
cause step (FillHoles choice) rule = None
cause step (WildHoles choice) rule = None

-- the cause, and then the size of the rule that is made
abbrev pub change_refusal : Limits → Step → PlainRule → Option Refusal
change_refusal limits step rule = first (
    cause step step.action rule
    ∷ grown_refusal limits rule.head.place (changed step rule).detections
    ∷ [])
