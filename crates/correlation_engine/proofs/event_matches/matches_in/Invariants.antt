use Rattle.std.proofs.Common.{length, ◌-◌, ◌≡◌, ◌++◌}
use Rattle.std.specs.Prelude.{drop}
use Rattle.std.specs.List.{zip}
use Rattle.correlation_windows.specs.History.{matches_from, event_matches}
use Rattle.correlation_engine.specs.Arrivals.{taken}
use Rattle.correlation_engine.proofs.event_matches.matches_in.Given as goal

abbrev pub invariant-loop-place : goal.invariant-loop-place
invariant-loop-place l = l.matches.items ++ matches_from l.bound.counted (taken l.arrival) l.place (drop l.place (zip l.rules l.groups)) ≡ event_matches l.bound (taken l.arrival)

abbrev pub decreases-loop-place : goal.decreases-loop-place
decreases-loop-place l = length l.rules - l.place
