use Rattle.std.proofs.Common.{◌≡◌, ℕ, List, [], ◌∷◌, ap, ◌∙◌}
use Rattle.std.proofs.lemmas.Result.{IfOk-weaker}
use Rattle.sig_base.proofs.Firsts.{hands_on}
use Rattle.rule_detections.specs.declared.test.Test.{Test}
use Rattle.rule_detections.specs.declared.test.Test.TheVariants.{Finds}
use Rattle.rule_detections.proofs.PatternLemmas.{judged_so}
use Rattle.rule_detections.proofs.value_tests.resolve_expression.Goals as goal

pub returns-clause-judged : goal.returns-clause-judged
returns-clause-judged c =
    let flags = c.args.flags in
    let judged = c.in_ok-written.ensures.judged c.args.chain.now in
    judged_so (λ (ts : List Test). ts ≡ Finds c.args.text.now flags ∷ []) _ c.one_test.result judged.0
    (IfOk-weaker c.one_test.result _ (λ (ts : List Test). ts ≡ Finds c.args.text.now flags ∷ [])
    (λ ts is. is ∙ ap (λ (t : List ℕ). Finds t flags ∷ []) judged.1) c.one_test.ensures.ok)
    c.one_test.ensures.err

pub returns-in_err-written-clause-judged : goal.returns-in_err-written-clause-judged
returns-in_err-written-clause-judged c =
    hands_on (λ (ts : List Test). ts ≡ Finds c.args.text.now c.args.flags ∷ []) (λ (t : List ℕ). t ≡ c.args.text.now) c.from_residual.result c.in_err-written.field-0.0 _ _ _
    c.from_residual.ensures.1 (λ y p. p)
    (c.in_err-written.ensures.judged c.args.chain.now) (λ r is. is)
