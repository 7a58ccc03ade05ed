use Rattle.answer_writer.proofs.Wrote.{tell_cut}
use Rattle.answer_writer.proofs.output.tell_diagnostic.Goals as goal

pub returns-in-Err : goal.returns-in-Err
returns-in-Err g c diagnostic is =
    let e = c.in-Err.ensures in
    tell_cut c.args.text.now diagnostic (g.W.Outside.state c.args.outside.now) (g.W.Outside.state c.tell.new.self) is e.failed e.out e.cause.failed e.inputs e.kept
