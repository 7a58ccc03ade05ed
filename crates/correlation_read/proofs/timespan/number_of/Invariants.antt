use Rattle.std.proofs.Common.{◌≡◌, ◌≤◌, drop}
use Rattle.std.specs.Prelude.{min}
use Rattle.sig_base.specs.Digits.{digits_from}
use Rattle.correlation_read.proofs.timespan.number_of.Given as goal

abbrev pub invariant-loop-digit : goal.invariant-loop-digit
invariant-loop-digit l = record {
  reads : min (digits_from l.value (drop l.digit-index l.digits)) 100000 ≡ min (digits_from 0 l.digits) 100000;
  small : l.value ≤ 100000;
}
