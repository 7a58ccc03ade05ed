use Rattle.std.proofs.Common.{◌≡◌, take, Ok}
use Rattle.answer_writer.specs.Each.{AllShares}
use Rattle.answer_writer.specs.Stands.{Writes}
use Rattle.correlation_run.specs.Followed.{report_share}
use Rattle.correlation_run.proofs.report_lines.put_reports.Given as goal

abbrev pub invariant-loop-report : goal.invariant-loop-report
invariant-loop-report g l = Writes (AllShares (λ r one. one ≡ report_share l.names r) (take l.report-index l.reports)) (Ok l.found) (g.W.Outside.state l.fn.outside) (g.W.Outside.state l.outside)
