use Rattle.std.proofs.Common.{◌∙◌, sym, ap, subst, arith, FitsSigned, to_z-of_z, ℤ, pos, ◌*ℤ◌}
use Rattle.std.specs.Int.{w128}
use Rattle.jiff.proofs.SpanFacts.{signed_arith}
use Rattle.event_time.proofs.Epochs.{from_epoch}
use Rattle.event_time.specs.Nearness.{IsNear}
use Rattle.event_time.proofs.moments.nanos_of.Goals as goal

pub returns-clause-value : goal.returns-clause-value
returns-clause-value c =
    let fits : FitsSigned w128 c.as_nanos.result = omega (arith, signed_arith, c.as_nanos.ensures.bound) in
    to_z-of_z fits ∙ (c.as_nanos.ensures.value ∙ (c.duration_since.ensures ∙ ap (λ (z : ℤ). z *ℤ pos 86400000000000) (from_epoch c.args.day c.date.result c.date.ensures)))

pub returns-clause-near : goal.returns-clause-near
returns-clause-near c =
    let fits : FitsSigned w128 c.as_nanos.result = omega (arith, signed_arith, c.as_nanos.ensures.bound) in
    let near : IsNear c.as_nanos.result = (omega (arith, signed_arith, c.as_nanos.ensures.bound), omega (arith, signed_arith, c.as_nanos.ensures.bound)) in
    subst IsNear (sym (to_z-of_z fits)) near
