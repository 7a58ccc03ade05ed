use Rattle.std.proofs.Common.{◌≡◌, ◌<◌, ◌^◌, true, drop}
use Rattle.std.specs.List.{list_all}
use Rattle.sig_base.specs.Digits.{is_digit, digits_from}
use Rattle.sql_scan.proofs.sorts.small_value.Given as goal

abbrev pub invariant-loop-c : goal.invariant-loop-c
invariant-loop-c l = record {
  small : l.value < 2 ^ 63;
  ran : digits_from l.value (drop l.c-index l.digits) ≡ digits_from 0 l.digits;
  digits : list_all is_digit (drop l.c-index l.digits) ≡ true;
}
