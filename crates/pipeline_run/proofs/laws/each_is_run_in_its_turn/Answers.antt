use Rattle.pipeline_run.proofs.Turns.{ascending, same}
use Rattle.pipeline_run.proofs.laws.each_is_run_in_its_turn.Goals as goal

pub returns : goal.returns
returns c = record { ascending = ascending; same = same }
