use Rattle.yaml_blocks.proofs.Stopped.{stops_by_cases, cases_stop}
use Rattle.yaml_blocks.proofs.laws.stops_by_cases.Goals as goal

pub returns-clause-cases : goal.returns-clause-cases
returns-clause-cases c = stops_by_cases

pub returns-clause-all : goal.returns-clause-all
returns-clause-all c = cases_stop
