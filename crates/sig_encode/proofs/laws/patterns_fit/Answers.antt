use Rattle.sig_encode.proofs.NetworkLemmas.{patterns_sound, patterns_complete}
use Rattle.sig_encode.proofs.laws.patterns_fit.Goals as goal

pub returns : goal.returns
returns c = λ n text cased small few address. (patterns_sound n small few text cased address, patterns_complete n small few text cased)
