use Rattle.std.proofs.Common.{sym, ◌∙◌, subst, ap, Ok, Bool, List, ℕ, false}
use Rattle.answer_writer.proofs.Followed.{follows_nothing}
use Rattle.answer_writer.specs.EventLines.{is_blank}
use Rattle.answer_writer.specs.FollowedLines.{UnlessBlankFollows}
use Rattle.answer_writer.specs.Parts.{Share}
use Rattle.answer_writer.specs.Stands.{Writes}
use Rattle.answer_writer.proofs.line_answers.follow_line.Goals as goal

pub returns-then-is_blank_line-clause-writes : goal.returns-then-is_blank_line-clause-writes
returns-then-is_blank_line-clause-writes g c = λ history stands.
    let s = g.W.Outside.state c.args.outside.now in
    let command = c.args.command.now in
    subst (λ (b : Bool). Writes (λ (share : Share). (after : g.C.LineFollower.History) × UnlessBlankFollows b (g.C.LineFollower.follows command history c.args.number c.args.line) history share after
    × g.C.LineFollower.stands command after) (Ok false) s s)
    (sym c.if-is_blank_line.true ∙ (c.is_blank_line.ensures ∙ ap (λ (l : List ℕ). is_blank l) c.as_slice.ensures))
    (follows_nothing (g.C.LineFollower.stands command) history s stands)
