use Rattle.std.proofs.Common.{◌≡◌, ◌++◌}
use Rattle.std.specs.Prelude.{take, drop}
use Rattle.correlation_windows.specs.Reaches.{aged}
use Rattle.correlation_windows.proofs.reaches.age.Given as goal

abbrev pub invariant-loop-place : goal.invariant-loop-place
invariant-loop-place l = take l.place l.reaches.items ++ aged (drop l.place l.reaches.items) ≡ aged l.initial.reaches.items
