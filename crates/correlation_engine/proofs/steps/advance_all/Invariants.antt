use Rattle.std.proofs.Common.{◌≡◌, ◌+◌, ◌≤◌, ◌++◌, length}
use Rattle.std.specs.Vec.{vec_len, vec_capacity}
use Rattle.std.specs.Prelude.{drop}
use Rattle.std.specs.Vec.Iter.{into_iter_items}
use Rattle.correlation_engine.specs.Arrivals.{taken}
use Rattle.correlation_engine.specs.Steps.{IsAdvanced, ArePrepared, reports_each, total_founds}
use Rattle.correlation_engine.proofs.Walking.{FirstTo}
use Rattle.correlation_engine.proofs.steps.advance_all.Given as goal

abbrev pub invariant-loop-founds : goal.invariant-loop-founds
invariant-loop-founds l =
    (goal.iterator-loop-founds).can_next l.founds-iterator ×
    (goal.iterator-loop-founds).is_finite l.founds-iterator
    × FirstTo (IsAdvanced (taken l.arrival)) l.place l.fn.watches.items l.watches.items
    × ArePrepared (taken l.arrival) (drop l.place l.fn.watches.items) (into_iter_items l.founds-iterator)
    × (l.place + length (into_iter_items l.founds-iterator) ≡ length l.fn.watches.items)
    × (vec_len l.reports + total_founds (into_iter_items l.founds-iterator) ≤ vec_capacity l.reports)
    × (l.reports.items ++ reports_each (taken l.arrival) l.place (drop l.place l.fn.watches.items) ≡ l.fn.reports.items ++ reports_each (taken l.arrival) 0 l.fn.watches.items)
