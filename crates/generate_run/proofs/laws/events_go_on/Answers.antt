use Rattle.generate_run.proofs.Drawn.{events_on, state_on}
use Rattle.generate_run.proofs.laws.events_go_on.Goals as goal

pub returns-clause-events : goal.returns-clause-events
returns-clause-events c = events_on

pub returns-clause-state : goal.returns-clause-state
returns-clause-state c = state_on
