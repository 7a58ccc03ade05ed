use Rattle.std.proofs.Common.{[]}
use Rattle.std.proofs.lemmas.Result.{IfOk-weaker}
use Rattle.std.specs.Str.{chars}
use Rattle.sig_base.proofs.Firsts.{hands_on}
use Rattle.sig_encode.specs.Networks.{IsNetwork}
use Rattle.rule_detections.specs.PlainTests.{ArePlainTests}
use Rattle.rule_detections.specs.TestsOf.{AreInside}
use Rattle.rule_detections.proofs.PatternLemmas.{are_inside, inside_plain, judged_so}
use Rattle.rule_detections.proofs.value_tests.resolve_network.Goals as goal

pub returns-clause-plain : goal.returns-clause-plain
returns-clause-plain c =
    let t = chars c.args.text.now in
    let n = c.in_ok-network.network in
    let read = (c.in_ok-network.ensures [] c.args.chain.now).1 in
    IfOk-weaker c.one_test.result _ ArePlainTests
    (λ ts is. inside_plain t n ts (c.networks_are_bounded.ensures.bits t n read, c.networks_are_bounded.ensures.prefix t n read) is)
    c.one_test.ensures.ok

pub returns-clause-judged : goal.returns-clause-judged
returns-clause-judged c = λ unbuilt.
    let t = chars c.args.text.now in
    let read = c.in_ok-network.ensures unbuilt c.args.chain.now in
    judged_so (AreInside t) _ c.one_test.result read.0
    (IfOk-weaker c.one_test.result _ (AreInside t) (λ ts is. are_inside t c.in_ok-network.network ts read.1 is) c.one_test.ensures.ok)
    c.one_test.ensures.err

pub returns-in_err-network-clause-judged : goal.returns-in_err-network-clause-judged
returns-in_err-network-clause-judged c = λ unbuilt.
    let t = chars c.args.text.now in
    hands_on (AreInside t) (IsNetwork t) c.from_residual.result c.in_err-network.field-0.0 _ _ _ c.from_residual.ensures.1 (λ y p. p)
    (c.in_err-network.ensures unbuilt c.args.chain.now) (λ r is. is)
