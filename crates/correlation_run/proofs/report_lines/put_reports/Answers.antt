use Rattle.std.proofs.Common.{◌≡◌, refl}
use Rattle.answer_writer.proofs.Rows.{writes_none, writes_next, writes_stops}
use Rattle.answer_writer.specs.Parts.{Share}
use Rattle.correlation_run.specs.Followed.{report_share}
use Rattle.correlation_windows.specs.declared.report.Report.{Report}
use Rattle.correlation_run.proofs.report_lines.put_reports.Goals as goal

pub loop-report-init : goal.loop-report-init
loop-report-init g c = writes_none (λ (r : Report) (share : Share). share ≡ report_share c.args.names.now r) (g.W.Outside.state c.args.outside.now)

pub loop-report-preserved : goal.loop-report-preserved
loop-report-preserved g c =
    writes_next (λ (r : Report) (share : Share). share ≡ report_share c.args.names.now r) c.args.reports.now c.loop-report.report-index c.report-item.result c.loop-report.found c.in-Ok.one _
    (g.W.Outside.state c.args.outside.now) (g.W.Outside.state c.loop-report.outside) (g.W.Outside.state c.put_report.new.outside)
    c.loop-report-test.true c.report-item.is refl c.loop-report.invariant c.in-Ok.ensures

pub returns-in-Err : goal.returns-in-Err
returns-in-Err g c =
    writes_stops (λ (r : Report) (share : Share). share ≡ report_share c.args.names.now r) (λ r. (report_share c.args.names.now r, refl)) c.args.reports.now c.loop-report.report-index c.report-item.result
    c.loop-report.found c.in-Err.stop (g.W.Outside.state c.args.outside.now) (g.W.Outside.state c.loop-report.outside) (g.W.Outside.state c.put_report.new.outside)
    c.loop-report-test.true c.report-item.is c.loop-report.invariant c.in-Err.ensures
