use Rattle.std.proofs.Common.{◌≡◌, ◌≤◌, ◌+◌, ◌*◌, drop}
use Rattle.event_time.specs.Moments as spec
use Rattle.event_time.proofs.moments.weighed.Given as goal

abbrev pub invariant-loop-digit : goal.invariant-loop-digit
invariant-loop-digit l =
    (l.nanos + spec.weighed l.unit (drop l.digit-index l.digits) ≡ spec.weighed 100000000 l.digits)
    × (l.nanos ≤ l.digit-index * 20700000000)
    × (l.unit ≤ 100000000)
