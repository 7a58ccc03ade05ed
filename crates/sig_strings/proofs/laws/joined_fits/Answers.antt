use Rattle.sig_strings.proofs.FitsLemmas.{Fits-append}
use Rattle.sig_strings.proofs.laws.joined_fits.Goals as goal

pub returns : goal.returns
returns c = Fits-append
