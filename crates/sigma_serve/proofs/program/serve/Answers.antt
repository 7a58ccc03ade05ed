use Rattle.sigma_serve.proofs.program.serve.Goals as goal

pub returns : goal.returns
returns g c = record {
  serves = c.serve_lent.ensures;
  headline = c.serve_lent.ensures.headline;
}
