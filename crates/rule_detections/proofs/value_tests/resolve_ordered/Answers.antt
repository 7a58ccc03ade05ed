use Rattle.std.proofs.Common.{◌≡◌, ℤ, List, [], ◌∷◌, sym, ap, ◌∙◌, subst, w64, to_z, of_z, to_z-of_z, None, Some}
use Rattle.std.proofs.lemmas.Result.{IfOk-weaker}
use Rattle.sig_base.proofs.Firsts.{hands_on}
use Rattle.modifier_values.specs.Uses.{ordered, use_refusal}
use Rattle.modifier_values.proofs.JudgedLemmas.{ordered_taken}
use Rattle.modifier_values.proofs.Numbers.{whole_holds}
use Rattle.rule_detections.specs.PlainTests.{ArePlainTests}
use Rattle.rule_detections.specs.TestsOf.{UseTests}
use Rattle.rule_detections.specs.declared.test.Test.{Test}
use Rattle.rule_detections.specs.declared.test.Test.TheVariants.{Compare}
use Rattle.rule_detections.proofs.PatternLemmas.{judged_so}
use Rattle.rule_detections.proofs.value_tests.resolve_ordered.Goals as goal

pub returns-clause-plain : goal.returns-clause-plain
returns-clause-plain c =
    let n = c.args.number in
    let back : to_z w64 (of_z w64 n) ≡ n = to_z-of_z c.ranges.number in
    let judged = c.in_ok-check_ordered.ensures [] 0 0 c.args.chain.now c.args.op in
    let none = ap (λ (m : ℤ). use_refusal [] 0 0 c.args.chain.now c.args.place (ordered c.args.op m)) (sym back) ∙ judged.0 in
    IfOk-weaker c.one_test.result _ ArePlainTests
    (λ ts is. subst ArePlainTests (sym (is ∙ ap (λ (m : ℤ). Compare c.args.op m ∷ []) back))
    (whole_holds n (ordered_taken [] 0 0 c.args.chain.now c.args.place c.args.op n none), tt))
    c.one_test.ensures.ok

pub returns-clause-judged : goal.returns-clause-judged
returns-clause-judged c = λ unbuilt.
    let n = c.args.number in
    let back : to_z w64 (of_z w64 n) ≡ n = to_z-of_z c.ranges.number in
    let most = c.args.limits.now.value_chars in
    let dashes = c.args.limits.now.dashes in
    let judged = c.in_ok-check_ordered.ensures unbuilt most dashes c.args.chain.now c.args.op in
    let tests = UseTests c.args.chain.now (ordered c.args.op n) in
    judged_so tests _ c.one_test.result
    (ap (λ (m : ℤ). use_refusal unbuilt most dashes c.args.chain.now c.args.place (ordered c.args.op m)) (sym back) ∙ judged.0)
    (IfOk-weaker c.one_test.result _ tests (λ ts is. is ∙ ap (λ (m : ℤ). Compare c.args.op m ∷ []) back) c.one_test.ensures.ok)
    c.one_test.ensures.err

pub returns-in_err-check_ordered-clause-judged : goal.returns-in_err-check_ordered-clause-judged
returns-in_err-check_ordered-clause-judged c = λ unbuilt.
    let n = c.args.number in
    let back : to_z w64 (of_z w64 n) ≡ n = to_z-of_z c.ranges.number in
    let most = c.args.limits.now.value_chars in
    let dashes = c.args.limits.now.dashes in
    hands_on (UseTests c.args.chain.now (ordered c.args.op n)) (λ (done : Unit {0}). Unit {0}) c.from_residual.result c.in_err-check_ordered.field-0.0 _ _ _
    c.from_residual.ensures.1 (λ y p. p)
    (c.in_err-check_ordered.ensures unbuilt most dashes c.args.chain.now c.args.op)
    (λ r is. ap (λ (m : ℤ). use_refusal unbuilt most dashes c.args.chain.now c.args.place (ordered c.args.op m)) (sym back) ∙ is)
