use Rattle.answer_writer.proofs.Asked.{measure}
use Rattle.answer_writer.proofs.Lined.{Going}
use Rattle.answer_writer.specs.EventLines.{AnswersWithin}
use Rattle.answer_writer.proofs.events.answer_lines.Given as goal

abbrev pub invariant-lines : goal.invariant-lines
invariant-lines g l = record {
  going : Going (g.C.LineCommand.gives l.fn.command) l.limits l.reader l.refused (g.W.Outside.state l.fn.outside) (g.W.Outside.state l.outside);
  same : AnswersWithin (g.C.LineCommand.gives l.command) (g.C.LineCommand.gives l.fn.command);
  keeps : g.C.LineCommand.keeps l.command;
}

abbrev pub decreases-lines : goal.decreases-lines
decreases-lines g l = measure l.reader
