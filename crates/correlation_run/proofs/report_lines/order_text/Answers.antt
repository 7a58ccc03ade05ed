use Rattle.std.proofs.Common.{rules}
use Rattle.std.specs.String.{string_bytes}
use Rattle.correlation_run.proofs.Lined.{early_line}
use Rattle.correlation_run.proofs.report_lines.order_text.Goals as goal

pub returns : goal.returns
returns c = early_line string_bytes c.format.result c.args.line c.args.code c.args.cause.now c.args.moment c.args.last (search rules)
