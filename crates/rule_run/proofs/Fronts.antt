-- A file's first bytes, up to one past the limit, are run as the file is.
use Rattle.std.proofs.Common.{ℕ, ◌+◌, ◌<◌, Bool, List, length, take, subst, arith, Option, inl, inr}
use Rattle.std.proofs.lemmas.Bool.{cases_lt}
use Rattle.std.proofs.lemmas.List.{take_all, length-take-le}
use Rattle.event_schema.specs.declared.schema.Schema.{Schema}
use Rattle.pipeline_model.specs.declared.pipeline.Pipeline.{Pipeline}
use Rattle.rule_regex.specs.Unbuilt.{Unbuilt}
use Rattle.rule_model.specs.Plain.{PlainRule}
use Rattle.rule_run.specs.Runs.{IsSingleRule, IsNoSingleRule, as_one, by_document, IsMadeRule, IsNoMadeRule, no_single, unmade, IsFit, IsUnfit, no_made, unfit, IsRun, IsNotRun, no_fit, not_built, AreOfSingle}
use Rattle.sig_base.specs.declared.limits.Limits.{Limits}
use Rattle.sig_base.specs.declared.refusal.Place.{Place}
use Rattle.sig_base.specs.declared.refusal.Refusal.{Refusal}
use Rattle.yaml_documents.specs.Call.{IsCallRefusal}
use Rattle.yaml_tree.specs.Tree.{At}

module _ (limits : Limits) (all : List ℕ) where
  abbrev front : List ℕ
  front = take (limits.file_bytes + 1) all

  past : limits.file_bytes < length all → limits.file_bytes < length front
  past large = omega (arith, large, length-take-le (limits.file_bytes + 1) all (omega (arith, large)))

  -- said of the front and of all: where the front isn't all, it's too large, and so is all
  moved : (Q : List ℕ → Type 0) → (limits.file_bytes < length all → Q front → Q all) → Q front → Q all
  moved Q large_so is = elim (cases_lt limits.file_bytes (length all)) as (λ _. Q all) [
    | inl large ↦ large_so large is
    | inr small ↦ subst Q (take_all (limits.file_bytes + 1) all (omega (arith, small))) is
  ]

  -- no documents are taken of what is too large, and its front is refused as a whole too
  pub single_places_front : (ps : List Pipeline) (ended : Bool) (unbuilt : Unbuilt) → AreOfSingle limits ps front ended unbuilt → AreOfSingle limits ps all ended unbuilt
  single_places_front ps ended unbuilt = moved (λ bytes. AreOfSingle limits ps bytes ended unbuilt) too_large
    where
      refused_first : (p : ℕ × At) → IsCallRefusal limits.file_bytes limits.documents all p → limits.file_bytes < length all → IsCallRefusal limits.file_bytes limits.documents front p
      refused_first p (inl (inl (_, is))) large = inl (inl (past large, is))
      refused_first p (inl (inr (small, _, _, _))) large = absurd (omega (arith, large, small))
      refused_first p (inr (small, _, _, _)) large = absurd (omega (arith, large, small))

      too_large : limits.file_bytes < length all → AreOfSingle limits ps front ended unbuilt → AreOfSingle limits ps all ended unbuilt
      too_large large are = record {
        tree = λ documents taken. let small = taken.within in absurd (omega (arith, large, small));
        whole = λ p is. are.whole p (refused_first p is large);
      }

  single_front : (unbuilt : List Place) (rule : PlainRule) → IsSingleRule unbuilt limits front rule → IsSingleRule unbuilt limits all rule
  single_front unbuilt rule = moved (λ bytes. IsSingleRule unbuilt limits bytes rule) too_large
    where
      too_large : limits.file_bytes < length all → IsSingleRule unbuilt limits front rule → IsSingleRule unbuilt limits all rule
      too_large large single = let small = single.taken.within in absurd (omega (arith, past large, small))

  no_single_front : (unbuilt : List Place) (r : Refusal) → IsNoSingleRule unbuilt limits front r → IsNoSingleRule unbuilt limits all r
  no_single_front unbuilt r = moved (λ bytes. IsNoSingleRule unbuilt limits bytes r) too_large
    where
      refused_too : (p : ℕ × At) → IsCallRefusal limits.file_bytes limits.documents front p → limits.file_bytes < length all → IsCallRefusal limits.file_bytes limits.documents all p
      refused_too p (inl (inl (_, is))) large = inl (inl (large, is))
      refused_too p (inl (inr (small, _, _, _))) large = absurd (omega (arith, past large, small))
      refused_too p (inr (small, _, _, _)) large = absurd (omega (arith, past large, small))

      too_large : limits.file_bytes < length all → IsNoSingleRule unbuilt limits front r → IsNoSingleRule unbuilt limits all r
      too_large large (as_one p is same) = as_one p (refused_too p is large) same
      too_large large (by_document documents taken none) = let small = taken.within in absurd (omega (arith, past large, small))

  module _ (ps : List Pipeline) where
    made_front : (unbuilt : List Place) (made : PlainRule) → IsMadeRule unbuilt limits ps front made → IsMadeRule unbuilt limits ps all made
    made_front unbuilt made rule = record { rule = rule.rule; single = single_front unbuilt rule.rule rule.single; makes = rule.makes }

    no_made_front : (unbuilt : List Place) (r : Refusal) → IsNoMadeRule unbuilt limits ps front r → IsNoMadeRule unbuilt limits ps all r
    no_made_front unbuilt r (no_single is) = no_single (no_single_front unbuilt r is)
    no_made_front unbuilt r (unmade rule single is) = unmade rule (single_front unbuilt rule single) is

    pub fit_front : (unbuilt : List Place) (given : Option Schema) (made : PlainRule) → IsFit unbuilt limits ps given front made → IsFit unbuilt limits ps given all made
    fit_front unbuilt given made fit = record { rule = made_front unbuilt made fit.rule; fits = fit.fits }

    pub unfit_front : (unbuilt : List Place) (given : Option Schema) (r : Refusal) → IsUnfit unbuilt limits ps given front r → IsUnfit unbuilt limits ps given all r
    unfit_front unbuilt given r (no_made is) = no_made (no_made_front unbuilt r is)
    unfit_front unbuilt given r (unfit made rule is) = unfit made (made_front unbuilt made rule) is

    pub run_front : (unbuilt : Unbuilt) (given : Option Schema) (made : PlainRule) → IsRun unbuilt limits ps given front made → IsRun unbuilt limits ps given all made
    run_front unbuilt given made run = record { fit = fit_front unbuilt.values given made run.fit; built = run.built }

    pub not_run_front : (unbuilt : Unbuilt) (given : Option Schema) (r : Refusal) → IsNotRun unbuilt limits ps given front r → IsNotRun unbuilt limits ps given all r
    not_run_front unbuilt given r (no_fit is) = no_fit (unfit_front unbuilt.values given r is)
    not_run_front unbuilt given r (not_built made fit is) = not_built made (fit_front unbuilt.values given made fit) is
