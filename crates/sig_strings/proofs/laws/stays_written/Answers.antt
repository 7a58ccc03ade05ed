use Rattle.sig_strings.proofs.FitsLemmas.{all_written-with_run_before, all_written-with_run_after}
use Rattle.sig_strings.proofs.laws.stays_written.Goals as goal

pub returns : goal.returns
returns c = record { before = all_written-with_run_before; after = all_written-with_run_after }
