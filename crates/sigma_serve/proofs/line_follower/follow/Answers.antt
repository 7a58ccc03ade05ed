use Rattle.sigma_serve.proofs.line_follower.follow.Goals as goal

pub returns : goal.returns
returns g c =
    let s = c.follow_lent.ensures in
    record { answer = s.answer; usage = s.usage; still = s.still; read_fault = s.read_fault; write_fault = s.write_fault; after_fault = s.after_fault; bounds = s.bounds }
