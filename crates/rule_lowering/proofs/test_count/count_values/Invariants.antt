use Rattle.std.proofs.Common.{◌≡◌, ◌≤◌, ◌+◌, ◌-◌, ◌^◌, min, drop}
use Rattle.rule_lowering.specs.Counts.{values_count}
use Rattle.rule_lowering.proofs.test_count.count_values.Given as goal

abbrev pub invariant-loop-value : goal.invariant-loop-value
invariant-loop-value l = record {
  most : l.count ≤ 2 ^ 127 - 1;
  sum : min (l.count + values_count (drop l.value-index l.values)) (2 ^ 127 - 1) ≡ min (values_count l.values) (2 ^ 127 - 1);
}
