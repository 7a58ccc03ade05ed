use Rattle.std.proofs.Common.{◌≡◌, ◌≤◌, ◌+◌, ◌-◌, ◌^◌, min, drop}
use Rattle.pipeline_limits.specs.Sizes.{total}
use Rattle.pipeline_edit.specs.Counted.{size_of}
use Rattle.pipeline_edit.proofs.rule_size.count_alternatives.Given as goal

abbrev pub invariant-loop-items : goal.invariant-loop-items
invariant-loop-items l = record {
  most : l.count ≤ 2 ^ 64 - 1;
  sum : min (l.count + total (total (size_of l.what)) (drop l.items-index l.alternatives)) (2 ^ 64 - 1) ≡ min (total (total (size_of l.what)) l.alternatives) (2 ^ 64 - 1);
}
