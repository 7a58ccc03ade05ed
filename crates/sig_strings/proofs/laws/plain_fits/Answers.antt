use Rattle.sig_strings.proofs.FitsLemmas.{Fits-plain, Fits-folded}
use Rattle.sig_strings.proofs.laws.plain_fits.Goals as goal

pub returns : goal.returns
returns c = record { cased = Fits-plain; folded = Fits-folded }
