-- What is made of regular expressions that are built.
use Rattle.std.proofs.Common.{◌≡◌, ℕ, List}
use Rattle.std.specs.Prelude.{Result, Ok, Err, IfOk, IfErr}
use Rattle.rule_regex.proofs.BuiltRows.{no_memory}
use Rattle.rule_regex.specs.Building.{Builds}
use Rattle.rule_detections.specs.declared.expression.Expression.{Expression}
use Rattle.sig_base.specs.declared.refusal.Fault.{Fault}
use Rattle.sig_base.specs.declared.refusal.Fault.TheVariants.{Memory}

-- all are built, and what is made of them wants memory alone
pub then_made : {X Y : Type 0} (Own : X → Type 0) (Is : Y → Type 0) (es : List Expression) (before after : List (List ℕ)) (x : X) (result : Result Y Fault)
    → Builds Own es before after (Ok x) → (Own x → IfOk result Is) → IfErr result (λ e. e ≡ Memory) → Builds Is es before after result
then_made Own Is es before after x (Ok y) built made faults = (built.0, built.1, made built.2)
then_made Own Is es before after x (Err e) built made faults = no_memory Is es before after e faults built.0
