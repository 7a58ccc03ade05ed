use Rattle.std.proofs.Common.{◌≡◌, ◌≤◌, ◌+◌, ◌-◌, ◌^◌, min, drop, length}
use Rattle.pipeline_limits.specs.Sizes.{total}
use Rattle.pipeline_edit.proofs.rule_size.count_tests.Given as goal

abbrev pub invariant-loop-tests : goal.invariant-loop-tests
invariant-loop-tests l = record {
  most : l.count ≤ 2 ^ 64 - 1;
  sum : min (l.count + total length (drop l.tests-index l.values)) (2 ^ 64 - 1) ≡ min (total length l.values) (2 ^ 64 - 1);
}
