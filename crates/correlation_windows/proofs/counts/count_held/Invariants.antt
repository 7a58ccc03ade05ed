use Rattle.std.proofs.Common.{◌≡◌, ◌+◌, ◌-◌, ◌^◌, ◌≤◌, min, length}
use Rattle.std.specs.Prelude.{drop}
use Rattle.correlation_windows.specs.Queues.{count_held, lengths, total}
use Rattle.correlation_windows.proofs.counts.count_held.Given as goal

abbrev pub invariant-loop-place : goal.invariant-loop-place
invariant-loop-place l = (l.sum ≤ 2 ^ 64 - 1) × (min (l.sum + total (drop l.place (lengths l.map.entries))) (2 ^ 64 - 1) ≡ min (count_held l.map.entries) (2 ^ 64 - 1))

abbrev pub decreases-loop-place : goal.decreases-loop-place
decreases-loop-place l = length l.map.entries - l.place
