use Rattle.std.proofs.Common.{◌≡◌, ◌++◌, ◌-◌}
use Rattle.generate_run.specs.Events as spec
use Rattle.generate_run.proofs.events.make_events.Given as goal

abbrev pub invariant-loop : goal.invariant-loop
invariant-loop l = l.events.items ++ spec.events_from l.state (l.count - l.counter) ≡ spec.events_from l.fn.state l.fn.count
