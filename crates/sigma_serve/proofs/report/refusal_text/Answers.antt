use Rattle.std.specs.String.{string_bytes}
use Rattle.std.proofs.Common.{◌∙◌}
use Rattle.sigma_serve.proofs.ReportLines.{refusal_lined}
use Rattle.sigma_serve.proofs.report.refusal_text.Goals as goal

pub returns : goal.returns
returns c =
    refusal_lined string_bytes c.line_text.result c.args.name.now c.as_str.result.now c.name.result.now c.as_str-2.result.now c.number.result c.args.refusal.now
    c.as_str.ensures.bytes c.number.ensures.number c.name.ensures (c.as_str-2.ensures.value ∙ c.in_ok-detail.ensures) c.line_text.ensures
