-- What is answered for a value, by the form of its chain.
use Rattle.std.proofs.Common.{◌≡◌, Bool, List, inl, inr, sym, ◌∙◌, subst}
use Rattle.std.specs.Prelude.{Result, ◌⊎◌}
use Rattle.modifier_words.specs.Chains.{form_of}
use Rattle.modifier_words.specs.Written.{Written}
use Rattle.modifier_words.specs.declared.form.ChainForm.{ChainForm}
use Rattle.modifier_words.specs.declared.form.ChainForm.TheVariants.{Bare, Texts}
use Rattle.sig_base.specs.declared.limits.Limits.{Limits}
use Rattle.sig_base.specs.declared.refusal.Fault.{Fault}
use Rattle.sig_base.specs.declared.refusal.Place.{Place}
use Rattle.modifier_values.specs.Uses.{Use}
use Rattle.yaml_tree.specs.Tree.{Scalar}
use Rattle.rule_detections.specs.Resolved.{UseJudged, ScalarJudged}
use Rattle.rule_detections.specs.TestsOf.{scalar_use}
use Rattle.rule_detections.specs.declared.test.Test.{Test}

module _ (unbuilt : List Place) (chain : Written) (limits : Limits) (place : Place) (s : Scalar) (r : Result (List Test) Fault) where
  pub as_form : (form : ChainForm) (u : Use) → form ≡ form_of chain → scalar_use form s ≡ u → UseJudged unbuilt chain limits place u r
      → ScalarJudged unbuilt chain limits place s r
  as_form form u is taken h =
      subst (λ (f : ChainForm). UseJudged unbuilt chain limits place (scalar_use f s) r) is
      (subst (λ (v : Use). UseJudged unbuilt chain limits place v r) (sym taken) h)

  -- what no modifier and text chains take alike
  pub as_text : (form : ChainForm) (u : Use) → form ≡ form_of chain → (form ≡ Bare) ⊎ ((nulls : Bool) × (form ≡ Texts nulls))
      → scalar_use Bare s ≡ u → ((nulls : Bool) → scalar_use (Texts nulls) s ≡ u) → UseJudged unbuilt chain limits place u r
      → ScalarJudged unbuilt chain limits place s r
  as_text form u same (inl is) bare texts h = as_form Bare u (sym is ∙ same) bare h
  as_text form u same (inr (nulls, is)) bare texts h = as_form (Texts nulls) u (sym is ∙ same) (texts nulls) h
