-- What making a rule ready answers.
use Rattle.std.proofs.Common.{◌≡◌, ℕ, List, [], ◌∷◌, refl, Option, Some, None, Err}
use Rattle.event_schema.specs.declared.schema.Schema.{Schema}
use Rattle.pipeline_run.specs.Chained.{run_pipelines, Gives as Makes}
use Rattle.pipeline_model.specs.declared.pipeline.Pipeline.{Pipeline}
use Rattle.rule_model.specs.Plain.{PlainRule}
use Rattle.rule_schema.specs.Inferred.{open_refusal, unfit_refusal, fit_refusal}
use Rattle.sig_base.specs.Judged.{Judged, first}
use Rattle.sig_base.specs.declared.limits.Limits.{Limits}
use Rattle.sig_base.specs.declared.refusal.Fault.{Fault}
use Rattle.sig_base.specs.declared.refusal.Fault.TheVariants as faults
use Rattle.sig_base.specs.declared.refusal.Refusal.{Refusal}
use Rattle.correlation_files.specs.Accepted.{IsFitted, IsStopped, IsChained, makes_none, doesnt_fit}

first_is : (o a b : Option Refusal) (r : Refusal) → o ≡ Some r → first (o ∷ a ∷ b ∷ []) ≡ Some r
first_is o a b r is = rw is refl

third_is : (o b : Option Refusal) (r : Refusal) → o ≡ None → b ≡ Some r → first (o ∷ None ∷ b ∷ []) ≡ Some r
third_is o b r none is = rw (none, is) refl

none_is : (o b : Option Refusal) → o ≡ None → b ≡ None → first (o ∷ None ∷ b ∷ []) ≡ None
none_is o b none also = rw (none, also) refl

module _ (schema : Schema) (rule : PlainRule) where
  -- a placeholder stands open
  pub stands_open : (texts : List (List ℕ)) (r : Refusal) → open_refusal rule ≡ Some r → IsFitted schema rule texts texts (Err (faults.Refused r))
  stands_open texts r is = doesnt_fit (first_is (open_refusal rule) None (fit_refusal schema rule) r is) refl

  -- the rule doesn't fit
  misfit_stops : (fault : Fault) → open_refusal rule ≡ None → Judged {X = Unit {0}} (λ done. Unit {0}) (fit_refusal schema rule) (Err fault) → IsStopped (unfit_refusal (Some schema) rule) (Err fault)
  misfit_stops faults.Memory filled judged = tt
  misfit_stops (faults.Refused r) filled judged = third_is (open_refusal rule) (fit_refusal schema rule) r filled judged

  pub misfits : (texts : List (List ℕ)) (fault : Fault) → open_refusal rule ≡ None → Judged {X = Unit {0}} (λ done. Unit {0}) (fit_refusal schema rule) (Err fault)
      → IsFitted schema rule texts texts (Err fault)
  misfits texts fault filled judged = doesnt_fit (misfit_stops fault filled judged) refl

  -- or it does
  pub both_fit : open_refusal rule ≡ None → fit_refusal schema rule ≡ None → unfit_refusal (Some schema) rule ≡ None
  both_fit filled fits = none_is (open_refusal rule) (fit_refusal schema rule) filled fits

-- no rule is made
pub none_chained : (limits : Limits) (ps : List Pipeline) (schema : Schema) (rule : PlainRule) (texts : List (List ℕ)) (fault : Fault) → Makes (run_pipelines limits ps rule) (Err fault)
    → IsChained limits ps schema rule texts texts (Err fault)
none_chained limits ps schema rule texts faults.Memory gives = makes_none tt refl
none_chained limits ps schema rule texts (faults.Refused r) gives = makes_none gives refl
