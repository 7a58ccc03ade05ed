-- What a step answers, by its action.
use Rattle.std.proofs.Common.{◌≡◌, [], ◌∷◌, sym, subst}
use Rattle.std.specs.Prelude.{Option, None, Result}
use Rattle.sig_base.specs.Judged.{Judged, first}
use Rattle.sig_base.specs.declared.limits.Limits.{Limits}
use Rattle.sig_base.specs.declared.refusal.Fault.{Fault}
use Rattle.sig_base.specs.declared.refusal.Refusal.{Refusal}
use Rattle.sig_base.proofs.Checks.{judged_last, first_one}
use Rattle.rule_model.specs.Plain.{PlainRule, rule_view}
use Rattle.rule_model.specs.declared.rule.Rule.{Rule}
use Rattle.pipeline_model.specs.declared.step.Action.{Action}
use Rattle.pipeline_model.specs.declared.step.Step.{Step}
use Rattle.pipeline_limits.specs.Sizes.{grown_refusal}
use Rattle.pipeline_edit.specs.Steps.{acted, cause}

-- the rule that an action makes is answered, or this cause
abbrev pub ActsAs : Limits → Step → Action → PlainRule → Result Rule Fault → Type 0
ActsAs limits step action rule result = Judged (λ (made : Rule). rule_view made ≡ acted step action rule)
    (first (cause step action rule ∷ grown_refusal limits rule.head.place (acted step action rule).detections ∷ [])) result

pub acted_as : (limits : Limits) (step : Step) (action : Action) (rule : PlainRule) (result : Result Rule Fault) → step.action ≡ action → ActsAs limits step action rule result
    → ActsAs limits step step.action rule result
acted_as limits step action rule result is judged = subst (λ (a : Action). ActsAs limits step a rule result) (sym is) judged

-- the size alone decides
pub by_size : (made : PlainRule) (size : Option Refusal) (result : Result Rule Fault) → Judged (λ (x : Rule). rule_view x ≡ made) size result
    → Judged (λ (x : Rule). rule_view x ≡ made) (first (None ∷ size ∷ [])) result
by_size made size result judged = judged_last (λ (x : Rule). rule_view x ≡ made) (first (None ∷ size ∷ [])) size result (first_one size) judged
