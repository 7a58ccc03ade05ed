use Rattle.std.proofs.Common.{◌≡◌, ◌≤◌, ◌+◌, ◌-◌, ◌^◌, max, map, drop}
use Rattle.pipeline_fill.specs.Counts.{capped}
use Rattle.pipeline_limits.specs.Sizes.{total, name_count, test_count}
use Rattle.pipeline_fill.specs.Changed.{changed_item}
use Rattle.pipeline_fill.specs.Entries.{largest}
use Rattle.pipeline_fill.specs.Longest.{longest_item}
use Rattle.pipeline_fill.specs.Extent.{item_extent}
use Rattle.pipeline_fill.specs.Grown.{open_item, first_of}
use Rattle.pipeline_fill.proofs.sizes.measure_items.Given as goal

abbrev pub invariant-loop-item : goal.invariant-loop-item
invariant-loop-item l = record {
  few_names : l.size.names ≤ 2 ^ 127 - 1;
  few : l.size.tests ≤ 2 ^ 127 - 1;
  short : l.size.longest ≤ 2 ^ 127 - 1;
  names : capped (l.size.names + total name_count (map (changed_item l.change.vars.now l.change.step.now) (drop l.item-index l.items))) ≡ capped (total name_count (map (changed_item l.change.vars.now l.change.step.now) l.items));
  tests : capped (l.size.tests + total test_count (map (changed_item l.change.vars.now l.change.step.now) (drop l.item-index l.items))) ≡ capped (total test_count (map (changed_item l.change.vars.now l.change.step.now) l.items));
  most : capped (max l.size.longest (largest longest_item (map (changed_item l.change.vars.now l.change.step.now) (drop l.item-index l.items)))) ≡ capped (largest longest_item (map (changed_item l.change.vars.now l.change.step.now) l.items));
  narrow : l.size.extent ≤ 2 ^ 127 - 1;
  all : capped (l.size.extent + total item_extent (map (changed_item l.change.vars.now l.change.step.now) (drop l.item-index l.items))) ≡ capped (total item_extent (map (changed_item l.change.vars.now l.change.step.now) l.items));
  first : first_of (open_item l.change.vars.now l.change.step.now) (drop l.item-index l.items) ≡ first_of (open_item l.change.vars.now l.change.step.now) l.items;
}
