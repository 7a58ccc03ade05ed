use Rattle.std.proofs.Common.{◌≡◌, ◌≤◌, ◌+◌, ◌-◌, ◌^◌, min, drop}
use Rattle.pipeline_limits.specs.Sizes.{total}
use Rattle.pipeline_edit.specs.Counted.{size_of}
use Rattle.pipeline_edit.proofs.rule_size.count_items.Given as goal

abbrev pub invariant-loop-item : goal.invariant-loop-item
invariant-loop-item l = record {
  most : l.count ≤ 2 ^ 64 - 1;
  sum : min (l.count + total (size_of l.what) (drop l.item-index l.items)) (2 ^ 64 - 1) ≡ min (total (size_of l.what) l.items) (2 ^ 64 - 1);
}
