use Rattle.std.proofs.Common.{◌∙◌, ap, arith, ℤ, FitsSigned, to_z-of_z, Some}
use Rattle.std.specs.Int.{w128}
use Rattle.jiff.proofs.SpanFacts.{signed_arith}
use Rattle.event_time.proofs.MomentLemmas.{text_is}
use Rattle.event_time.specs.Moments as spec
use Rattle.event_time.proofs.moments.text_moment.Goals as goal

pub returns-clause-value : goal.returns-clause-value
returns-clause-value c =
    let fits : FitsSigned w128 c.in-Some.day = omega (arith, signed_arith, c.in-Some.ensures.near) in
    c.zoned.ensures.value
    ∙ (ap (λ (d : ℤ). spec.zoned (Some d) (Some c.in-Some-clock_of.clock) c.behind-2.result.now) (to_z-of_z fits)
    ∙ text_is c.args.bytes.now c.front.result.now c.behind.result.now c.front-2.result.now c.behind-2.result.now c.in-Some.day c.in-Some-clock_of.clock
    c.in-Some.ensures.value c.front.ensures c.in-Some-clock_of.ensures c.front-2.ensures c.behind.ensures c.behind-2.ensures)
