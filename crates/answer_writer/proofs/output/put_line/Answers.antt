use Rattle.std.proofs.Common.{◌≡◌, refl}
use Rattle.answer_writer.proofs.Wrote.{writes_memory}
use Rattle.answer_writer.specs.Lines.{ended}
use Rattle.answer_writer.specs.Parts.{text_share}
use Rattle.answer_writer.proofs.output.put_line.Goals as goal

pub returns-in-Err : goal.returns-in-Err
returns-in-Err g c = writes_memory (λ share. share ≡ text_share (ended c.args.line.items)) (g.W.Outside.state c.args.outside.now) (text_share (ended c.args.line.items), refl)
