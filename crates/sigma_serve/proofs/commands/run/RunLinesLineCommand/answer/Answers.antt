use Rattle.std.proofs.Common.{List, ℕ, subst, Ok, Err}
use Rattle.answer_writer.proofs.Wrote.{writes_memory}
use Rattle.event_read.specs.Answers.{Answers}
use Rattle.event_read.specs.EventOf.{event_of}
use Rattle.event_schema.specs.Occurrence.{Occurrence}
use Rattle.rule_model.specs.Matching.{Matches}
use Rattle.rule_model.specs.Plain.{rule_view}
use Rattle.sig_base.specs.declared.refusal.Fault.TheVariants.{Refused}
use Rattle.sig_base.specs.declared.refusal.Place.{Place}
use Rattle.answer_writer.proofs.Selected.{event_gives, refused_gives}
use Rattle.sigma_serve.specs.Ran.{RunGives}
use Rattle.sigma_serve.proofs.commands.run.RunLinesLineCommand.answer.Goals as goal

pub returns-in-Ok-clause-writes : goal.returns-in-Ok-clause-writes
returns-in-Ok-clause-writes g c =
    let schema = c.args.self.now.schema.now in
    let rule = rule_view c.args.self.now.rule.now in
    let place : Place = record { line = c.args.number; column = 1 } in
    let answers = subst (λ (bytes : List ℕ). Answers place (event_of schema bytes) (Ok c.in-Ok.event)) c.as_slice.ensures c.in-Ok.ensures.taken in
    event_gives schema (λ row. Matches schema.fields row rule) c.args.number c.args.line place c.put_picked.result (g.W.Outside.state c.args.outside.now) (g.W.Outside.state c.put_picked.new.outside)
    c.in-Ok.event c.matches-picked.result answers (c.matches-picked.ensures.means schema.fields rule c.requires) c.put_picked.ensures

pub returns-in-Ok-clause-keeps : goal.returns-in-Ok-clause-keeps
returns-in-Ok-clause-keeps g c = c.matches-picked.ensures.same c.args.self.now.schema.now.fields (rule_view c.args.self.now.rule.now) c.requires

pub returns-in-Err-Refused-clause-writes : goal.returns-in-Err-Refused-clause-writes
returns-in-Err-Refused-clause-writes g c =
    let schema = c.args.self.now.schema.now in
    let rule = rule_view c.args.self.now.rule.now in
    let place : Place = record { line = c.args.number; column = 1 } in
    let taken = rw c.in-Err-Refused.field-0-is at c.in-Err-Refused.ensures.taken in
    let answers = subst (λ (bytes : List ℕ). Answers {X = Occurrence} place (event_of schema bytes) (Err (Refused c.in-Err-Refused.cause))) c.as_slice.ensures taken in
    refused_gives schema (λ row. Matches schema.fields row rule) c.args.number c.args.line place c.tell_line_refusal.result (g.W.Outside.state c.args.outside.now)
    (g.W.Outside.state c.tell_line_refusal.new.outside) c.in-Err-Refused.cause answers c.tell_line_refusal.ensures

pub returns-clause-writes : goal.returns-clause-writes
returns-clause-writes g c =
    writes_memory (RunGives c.args.self.now.schema.now (rule_view c.args.self.now.rule.now) c.args.number c.args.line) (g.W.Outside.state c.args.outside.now)
    (c.each_line.ensures c.args.number c.args.line)
