use Rattle.std.specs.String.{string_bytes}
use Rattle.answer_writer.proofs.Refusals.{refused_line}
use Rattle.answer_writer.proofs.events.line_text.Goals as goal

pub returns : goal.returns
returns c = refused_line string_bytes c.format.result c.args.line c.args.number c.args.cause.now c.format.ensures.ok
