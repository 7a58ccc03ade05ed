use Rattle.std.proofs.lemmas.Result.{IfOk-weaker}
use Rattle.std.specs.Str.{chars}
use Rattle.sig_base.proofs.Firsts.{hands_on}
use Rattle.rule_detections.specs.PlainTests.{ArePlainTests}
use Rattle.rule_detections.specs.TestsOf.{AreFits}
use Rattle.rule_detections.proofs.PatternLemmas.{fits_plain, are_fits, judged_so}
use Rattle.rule_detections.proofs.value_tests.resolve_text.Goals as goal

pub returns-clause-plain : goal.returns-clause-plain
returns-clause-plain c =
    IfOk-weaker c.fits_tests.result _ ArePlainTests
    (λ ts is. fits_plain c.is_cased.result c.deref.result.now c.in_ok-patterns.patterns.items ts c.deref.ensures.value c.in_ok-patterns.ensures.plain is)
    c.fits_tests.ensures.ok

pub returns-clause-judged : goal.returns-clause-judged
returns-clause-judged c = λ unbuilt.
    let fits = AreFits c.args.chain.now (chars c.args.text.now) in
    judged_so fits _ c.fits_tests.result (c.in_ok-patterns.ensures.judged unbuilt).0
    (IfOk-weaker c.fits_tests.result _ fits
    (λ ts is. are_fits c.args.chain.now (chars c.args.text.now) c.is_cased.result c.deref.result.now c.in_ok-patterns.patterns.items ts
    c.deref.ensures.value c.is_cased.ensures (c.in_ok-patterns.ensures.judged unbuilt).1 is) c.fits_tests.ensures.ok)
    c.fits_tests.ensures.err

pub returns-in_err-patterns-clause-judged : goal.returns-in_err-patterns-clause-judged
returns-in_err-patterns-clause-judged c = λ unbuilt.
    hands_on (AreFits c.args.chain.now (chars c.args.text.now)) (λ (done : Unit {0}). Unit {0}) c.from_residual.result c.in_err-patterns.field-0.0 _ _ _
    c.from_residual.ensures.1 (λ y p. p)
    (c.in_err-patterns.ensures.judged unbuilt) (λ r is. is)
