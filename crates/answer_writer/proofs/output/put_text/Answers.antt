use Rattle.answer_writer.proofs.Wrote.{put_cut}
use Rattle.answer_writer.proofs.output.put_text.Goals as goal

pub returns-in-Err : goal.returns-in-Err
returns-in-Err g c =
    let e = c.in-Err.ensures in
    put_cut c.args.text.now (g.W.Outside.state c.args.outside.now) (g.W.Outside.state c.put.new.self) e.failed e.err e.cause.failed e.inputs e.kept
