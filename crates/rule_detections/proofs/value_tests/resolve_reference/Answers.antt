use Rattle.std.proofs.Common.{◌≡◌, ℕ, List, [], ◌∷◌, sym, ap, ◌∙◌, subst}
use Rattle.std.proofs.lemmas.Result.{IfOk-weaker}
use Rattle.sig_base.proofs.Firsts.{hands_on}
use Rattle.rule_detections.specs.PlainTests.{ArePlainTests}
use Rattle.rule_detections.specs.declared.test.Test.{Test}
use Rattle.rule_detections.specs.declared.test.Test.TheVariants.{SameAs}
use Rattle.rule_detections.proofs.PatternLemmas.{judged_so}
use Rattle.rule_detections.proofs.value_tests.resolve_reference.Goals as goal

pub returns-clause-plain : goal.returns-clause-plain
returns-clause-plain c =
    IfOk-weaker c.one_test.result _ ArePlainTests (λ ts is. subst ArePlainTests (sym is) (c.in_ok-name.ensures.legal, tt)) c.one_test.ensures.ok

pub returns-clause-judged : goal.returns-clause-judged
returns-clause-judged c = λ unbuilt.
    let judged = c.in_ok-name.ensures.judged unbuilt c.args.chain.now in
    judged_so (λ (ts : List Test). ts ≡ SameAs c.args.text.now ∷ []) _ c.one_test.result judged.0
    (IfOk-weaker c.one_test.result _ (λ (ts : List Test). ts ≡ SameAs c.args.text.now ∷ []) (λ ts is. is ∙ ap (λ (name : List ℕ). SameAs name ∷ []) judged.1) c.one_test.ensures.ok)
    c.one_test.ensures.err

pub returns-in_err-name-clause-judged : goal.returns-in_err-name-clause-judged
returns-in_err-name-clause-judged c = λ unbuilt.
    hands_on (λ (ts : List Test). ts ≡ SameAs c.args.text.now ∷ []) (λ (name : List ℕ). name ≡ c.args.text.now) c.from_residual.result c.in_err-name.field-0.0 _ _ _
    c.from_residual.ensures.1 (λ y p. p)
    (c.in_err-name.ensures.judged unbuilt c.args.chain.now) (λ r is. is)
