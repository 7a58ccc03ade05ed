use Rattle.std.proofs.Common.{◌≡◌, ◌∙◌, refl}
use Rattle.answer_writer.proofs.Wrote.{writes_memory}
use Rattle.answer_writer.specs.EventLines.{line_diagnostic, line_refused}
use Rattle.answer_writer.proofs.events.tell_line_refusal.Goals as goal

pub returns-in-Ok : goal.returns-in-Ok
returns-in-Ok g c = c.tell_diagnostic.ensures (line_diagnostic c.args.number c.args.code) (c.as_bytes.ensures.value ∙ c.in-Ok.ensures)

pub returns-in-Err : goal.returns-in-Err
returns-in-Err g c =
    writes_memory (λ share. share ≡ line_refused c.args.number c.args.code) (g.W.Outside.state c.args.outside.now) (line_refused c.args.number c.args.code, refl)
