use Rattle.std.proofs.Common.{sym, subst, Ok, false}
use Rattle.std.specs.Prelude.{OnOk}
use Rattle.answer_writer.proofs.Followed.{follows_nothing, follows_refused}
use Rattle.answer_writer.specs.FollowedLines.{StepFollows}
use Rattle.answer_writer.specs.Parts.{Share}
use Rattle.answer_writer.specs.Stands.{Writes}
use Rattle.sig_base.specs.declared.faults.LineStep.{LineStep}
use Rattle.answer_writer.proofs.line_answers.follow_step.Goals as goal

pub returns-in-TooLong-clause-writes : goal.returns-in-TooLong-clause-writes
returns-in-TooLong-clause-writes g c = λ history stands.
    let command = c.args.command.now in
    let r = c.tell_line_refusal.result in
    subst (λ (step : LineStep). Writes (λ (share : Share). (after : g.C.LineFollower.History) × StepFollows (g.C.LineFollower.follows command) history step share after
    × OnOk r (g.C.LineFollower.stands command after)) r (g.W.Outside.state c.args.outside.now) (g.W.Outside.state c.tell_line_refusal.new.outside)) (sym c.in-TooLong.is)
    (follows_refused (g.C.LineFollower.stands command) history c.in-TooLong.number 30 r (g.W.Outside.state c.args.outside.now) (g.W.Outside.state c.tell_line_refusal.new.outside) stands c.tell_line_refusal.ensures)

pub returns-in-TooMuch-clause-writes : goal.returns-in-TooMuch-clause-writes
returns-in-TooMuch-clause-writes g c = λ history stands.
    let command = c.args.command.now in
    let r = c.tell_line_refusal-in-TooMuch.result in
    let new = g.W.Outside.state c.tell_line_refusal-in-TooMuch.new.outside in
    subst (λ (step : LineStep). Writes (λ (share : Share). (after : g.C.LineFollower.History) × StepFollows (g.C.LineFollower.follows command) history step share after
    × OnOk r (g.C.LineFollower.stands command after)) r (g.W.Outside.state c.args.outside.now) new) (sym c.in-TooMuch.is)
    (follows_refused (g.C.LineFollower.stands command) history c.in-TooMuch.number 31 r (g.W.Outside.state c.args.outside.now) new stands c.tell_line_refusal-in-TooMuch.ensures)

pub returns-in-End-clause-writes : goal.returns-in-End-clause-writes
returns-in-End-clause-writes g c = λ history stands.
    let s = g.W.Outside.state c.args.outside.now in
    let command = c.args.command.now in
    subst (λ (step : LineStep). Writes (λ (share : Share). (after : g.C.LineFollower.History) × StepFollows (g.C.LineFollower.follows command) history step share after
    × g.C.LineFollower.stands command after) (Ok false) s s) (sym c.in-End.is)
    (follows_nothing (g.C.LineFollower.stands command) history s stands)
