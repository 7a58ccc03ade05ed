use Rattle.sig_encode.proofs.WrittenLemmas.{network_read, network_written}
use Rattle.sig_encode.proofs.laws.networks_are_read.Goals as goal

pub returns : goal.returns
returns c = λ text n. (network_read text n, network_written text n)
