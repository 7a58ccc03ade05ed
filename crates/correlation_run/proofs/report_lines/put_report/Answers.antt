use Rattle.std.proofs.Common.{◌≡◌, refl}
use Rattle.answer_writer.proofs.Wrote.{writes_memory}
use Rattle.correlation_run.specs.Followed.{report_share}
use Rattle.correlation_run.proofs.report_lines.put_report.Goals as goal

pub returns : goal.returns
returns g c =
    writes_memory (λ share. share ≡ report_share c.args.names.now c.args.report.now) (g.W.Outside.state c.args.outside.now) (report_share c.args.names.now c.args.report.now, refl)
