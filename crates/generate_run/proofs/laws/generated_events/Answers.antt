use Rattle.generate_run.proofs.Fitting.{events_fit}
use Rattle.generate_run.proofs.laws.generated_events.Goals as goal

pub returns-clause-events : goal.returns-clause-events
returns-clause-events c = events_fit
