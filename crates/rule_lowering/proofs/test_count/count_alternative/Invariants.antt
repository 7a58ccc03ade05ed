use Rattle.std.proofs.Common.{◌≡◌, ◌≤◌, ◌+◌, ◌-◌, ◌^◌, min, drop}
use Rattle.rule_lowering.specs.Counts.{alternative_count}
use Rattle.rule_lowering.proofs.test_count.count_alternative.Given as goal

abbrev pub invariant-loop-item : goal.invariant-loop-item
invariant-loop-item l = record {
  most : l.count ≤ 2 ^ 127 - 1;
  sum : min (l.count + alternative_count l.searched (drop l.item-index l.items)) (2 ^ 127 - 1) ≡ min (alternative_count l.searched l.items) (2 ^ 127 - 1);
}
