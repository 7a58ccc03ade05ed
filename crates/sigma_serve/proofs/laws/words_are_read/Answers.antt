use Rattle.sigma_serve.proofs.Wording.{accepted_read, read_accepted}
use Rattle.sigma_serve.proofs.laws.words_are_read.Goals as goal

pub returns : goal.returns
returns c = λ words request. (accepted_read words request, read_accepted words request)
