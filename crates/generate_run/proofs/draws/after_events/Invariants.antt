use Rattle.std.proofs.Common.{◌≡◌, ◌-◌}
use Rattle.generate_run.specs.Draws as spec
use Rattle.generate_run.proofs.draws.after_events.Given as goal

abbrev pub invariant-loop : goal.invariant-loop
invariant-loop l = spec.after_events l.state (l.count - l.counter) ≡ spec.after_events l.fn.state l.fn.count
