use Rattle.std.proofs.Common.{sym, ◌∙◌, subst, ap, Ok, Bool, List, ℕ, false}
use Rattle.answer_writer.proofs.Wrote.{writes_nothing}
use Rattle.answer_writer.specs.EventLines.{UnlessBlank, is_blank}
use Rattle.answer_writer.specs.Stands.{Writes}
use Rattle.answer_writer.proofs.events.answer_line.Goals as goal

pub returns-then-is_blank_line-clause-writes : goal.returns-then-is_blank_line-clause-writes
returns-then-is_blank_line-clause-writes g c =
    let s = g.W.Outside.state c.args.outside.now in
    subst (λ (b : Bool). Writes (UnlessBlank b (g.C.LineCommand.gives c.args.command.now c.args.number c.args.line)) (Ok false) s s)
    (sym c.if-is_blank_line.true ∙ (c.is_blank_line.ensures ∙ ap (λ (l : List ℕ). is_blank l) c.as_slice.ensures)) (writes_nothing s)
