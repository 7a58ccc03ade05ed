use Rattle.sig_strings.proofs.FitsLemmas.{Fits-with_run_before, Fits-with_run_after, Fits-with_runs}
use Rattle.sig_strings.proofs.laws.runs_fit.Goals as goal

pub returns : goal.returns
returns c = record { before = Fits-with_run_before; after = Fits-with_run_after; around = Fits-with_runs }
