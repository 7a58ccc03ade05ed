use Rattle.std.proofs.Common.{◌≡◌, ◌≤◌, ◌+◌, ◌-◌, ◌^◌, min, drop}
use Rattle.rule_lowering.specs.Counts.{alternatives_count}
use Rattle.rule_lowering.proofs.test_count.count_alternatives.Given as goal

abbrev pub invariant-loop-alternative : goal.invariant-loop-alternative
invariant-loop-alternative l = record {
  most : l.count ≤ 2 ^ 127 - 1;
  sum : min (l.count + alternatives_count l.searched (drop l.alternative-index l.alternatives)) (2 ^ 127 - 1) ≡ min (alternatives_count l.searched l.alternatives) (2 ^ 127 - 1);
}
