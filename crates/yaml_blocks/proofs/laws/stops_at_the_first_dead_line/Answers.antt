use Rattle.yaml_blocks.proofs.First.{stops_there}
use Rattle.yaml_blocks.proofs.laws.stops_at_the_first_dead_line.Goals as goal

pub returns : goal.returns
returns c = stops_there
