use Rattle.sql_lang.proofs.Runs.{run_is, one_is}
use Rattle.sql_lang.proofs.meaning.runs_and_characters.Goals as goal

pub returns : goal.returns
returns c = record { run = run_is; one = one_is }
