use Rattle.std.specs.String.{string_bytes}
use Rattle.sigma_serve.proofs.ReportLines.{ok_lined}
use Rattle.sigma_serve.proofs.report.ok_text.Goals as goal

pub returns : goal.returns
returns c = ok_lined string_bytes c.format.result c.args.name.now c.as_str-file.result.now c.args.place c.as_str-file.ensures.bytes c.format.ensures.ok
