use Rattle.std.proofs.Common.{◌≡◌, refl}
use Rattle.answer_writer.proofs.Wrote.{writes_memory}
use Rattle.sigma_serve.specs.Reports.{refusal_share}
use Rattle.sigma_serve.proofs.documents.put_refusal.Goals as goal

pub returns-in-Err : goal.returns-in-Err
returns-in-Err g c =
    writes_memory (λ share. share ≡ refusal_share c.args.name.now c.args.refusal.now) (g.W.Outside.state c.args.outside.now) (refusal_share c.args.name.now c.args.refusal.now, refl)
