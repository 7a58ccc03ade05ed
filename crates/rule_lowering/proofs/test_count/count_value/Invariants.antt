use Rattle.std.proofs.Common.{◌≡◌, ◌≤◌, ◌+◌, ◌-◌, ◌^◌, min, drop}
use Rattle.rule_lowering.specs.Counts.{value_count}
use Rattle.rule_lowering.proofs.test_count.count_value.Given as goal

abbrev pub invariant-loop-test : goal.invariant-loop-test
invariant-loop-test l = record {
  most : l.count ≤ 2 ^ 127 - 1;
  sum : min (l.count + value_count (drop l.test-index l.tests)) (2 ^ 127 - 1) ≡ min (value_count l.tests) (2 ^ 127 - 1);
}
