use Rattle.std.proofs.Common.{◌≡◌, ◌∙◌, refl}
use Rattle.answer_writer.proofs.Wrote.{writes_memory}
use Rattle.answer_writer.specs.Lines.{ended}
use Rattle.answer_writer.specs.Parts.{diagnostic_share}
use Rattle.correlation_run.proofs.Lined.{as_handed, order_line}
use Rattle.correlation_run.specs.Followed.{order_diagnostic}
use Rattle.correlation_run.proofs.report_lines.tell_early.Goals as goal

pub returns-in-Ok : goal.returns-in-Ok
returns-in-Ok g c =
    c.tell_diagnostic.ensures (order_diagnostic c.args.number c.args.moment c.args.last)
    (as_handed (λ moment last. c.as_bytes.result.now ≡ ended (order_diagnostic c.args.number moment last)) c.args.moment c.args.last c.ranges.moment c.ranges.last
    (order_line c.as_bytes.result.now c.args.number c.number.result c.name.result.now _ _ c.number.ensures.number c.name.ensures (c.as_bytes.ensures.value ∙ c.in-Ok.ensures)))

pub returns-in-Err : goal.returns-in-Err
returns-in-Err g c =
    let diagnostic = order_diagnostic c.args.number c.args.moment c.args.last in
    writes_memory (λ share. share ≡ diagnostic_share diagnostic) (g.W.Outside.state c.args.outside.now) (diagnostic_share diagnostic, refl)
