use Rattle.lucene_lang.proofs.Runs.{run_fits, one_fits, character_fits, nothing_fits}
use Rattle.lucene_lang.proofs.meaning.runs_and_characters.Goals as goal

pub returns : goal.returns
returns c = record { run = run_fits; one = one_fits; character = character_fits; nothing = nothing_fits }
