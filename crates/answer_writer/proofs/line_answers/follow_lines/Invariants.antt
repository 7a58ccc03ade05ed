use Rattle.std.proofs.Common.{◌≡◌}
use Rattle.answer_writer.proofs.Asked.{measure}
use Rattle.answer_writer.proofs.Followed.{Going}
use Rattle.answer_writer.specs.FollowedLines.{FollowsWithin}
use Rattle.answer_writer.proofs.line_answers.follow_lines.Given as goal

abbrev pub invariant-lines : goal.invariant-lines
invariant-lines g l = record {
  going : (start : g.C.LineFollower.History) → g.C.LineFollower.stands l.fn.command start → (history : g.C.LineFollower.History)
      × Going (g.C.LineFollower.follows l.fn.command) l.limits start history l.reader l.refused (g.W.Outside.state l.fn.outside) (g.W.Outside.state l.outside)
      × g.C.LineFollower.stands l.command history;
  same : FollowsWithin (g.C.LineFollower.follows l.command) (g.C.LineFollower.follows l.fn.command);
  fixed : g.C.LineFollower.fixed l.command ≡ g.C.LineFollower.fixed l.fn.command;
  keeps : g.C.LineFollower.keeps l.command;
}

abbrev pub decreases-lines : goal.decreases-lines
decreases-lines g l = measure l.reader
