use Rattle.std.proofs.Common.{List, ℕ, subst, Err}
use Rattle.answer_writer.proofs.Wrote.{writes_memory}
use Rattle.event_read.specs.Answers.{Answers}
use Rattle.event_read.specs.EventOf.{event_of}
use Rattle.event_schema.specs.Occurrence.{Occurrence}
use Rattle.answer_writer.proofs.Selected.{refused_gives}
use Rattle.answer_writer.specs.Selected.{Selects}
use Rattle.sig_base.specs.declared.refusal.Fault.TheVariants.{Refused}
use Rattle.sig_base.specs.declared.refusal.Place.{Place}
use Rattle.answer_writer.proofs.selected_lines.QueryLinesLineCommand.answer.Goals as goal

pub returns-in-Err-Refused-clause-writes : goal.returns-in-Err-Refused-clause-writes
returns-in-Err-Refused-clause-writes g c =
    let schema = c.args.self.now.schema.now in
    let place : Place = record { line = c.args.number; column = 1 } in
    let taken = rw c.in-Err-Refused.field-0-is at c.in-Err-Refused.ensures.taken in
    let answers = subst (λ (bytes : List ℕ). Answers {X = Occurrence} place (event_of schema bytes) (Err (Refused c.in-Err-Refused.cause))) c.as_slice.ensures taken in
    refused_gives schema (g.S.Selector.picks (g.S.Selector.plain c.args.self.now.selector.now)) c.args.number c.args.line place c.tell_line_refusal.result (g.W.Outside.state c.args.outside.now)
    (g.W.Outside.state c.tell_line_refusal.new.outside) c.in-Err-Refused.cause answers c.tell_line_refusal.ensures

pub returns-clause-writes : goal.returns-clause-writes
returns-clause-writes g c =
    writes_memory (Selects c.args.self.now.schema.now (g.S.Selector.picks (g.S.Selector.plain c.args.self.now.selector.now)) c.args.number c.args.line) (g.W.Outside.state c.args.outside.now)
    (c.each_line.ensures c.args.number c.args.line)
