use Rattle.std.proofs.Common.{◌≡◌, ◌≤◌, drop}
use Rattle.std.specs.Prelude.{min}
use Rattle.sig_base.specs.Digits.{digits_from}
use Rattle.sigma_serve.proofs.numbers.number_of.Given as goal

abbrev pub invariant-loop-digit : goal.invariant-loop-digit
invariant-loop-digit l = record {
  reads : min (digits_from l.value (drop l.digit-index l.digits)) 4294967296 ≡ min (digits_from 0 l.digits) 4294967296;
  small : l.value ≤ 4294967296;
}
