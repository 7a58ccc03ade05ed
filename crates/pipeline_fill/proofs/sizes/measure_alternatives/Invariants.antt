use Rattle.std.proofs.Common.{◌≡◌, ◌≤◌, ◌+◌, ◌-◌, ◌^◌, max, map, drop}
use Rattle.pipeline_fill.specs.Counts.{capped}
use Rattle.pipeline_limits.specs.Sizes.{total, name_count, test_count}
use Rattle.pipeline_fill.specs.Changed.{changed_items}
use Rattle.pipeline_fill.specs.Entries.{largest}
use Rattle.pipeline_fill.specs.Longest.{longest_items}
use Rattle.pipeline_fill.specs.Extent.{item_extent}
use Rattle.pipeline_fill.specs.Grown.{open_items, first_of}
use Rattle.pipeline_fill.proofs.sizes.measure_alternatives.Given as goal

abbrev pub invariant-loop-items : goal.invariant-loop-items
invariant-loop-items l = record {
  few_names : l.size.names ≤ 2 ^ 127 - 1;
  few : l.size.tests ≤ 2 ^ 127 - 1;
  short : l.size.longest ≤ 2 ^ 127 - 1;
  names : capped (l.size.names + total (total name_count) (map (changed_items l.change.vars.now l.change.step.now) (drop l.items-index l.alternatives))) ≡ capped (total (total name_count) (map (changed_items l.change.vars.now l.change.step.now) l.alternatives));
  tests : capped (l.size.tests + total (total test_count) (map (changed_items l.change.vars.now l.change.step.now) (drop l.items-index l.alternatives))) ≡ capped (total (total test_count) (map (changed_items l.change.vars.now l.change.step.now) l.alternatives));
  most : capped (max l.size.longest (largest longest_items (map (changed_items l.change.vars.now l.change.step.now) (drop l.items-index l.alternatives)))) ≡ capped (largest longest_items (map (changed_items l.change.vars.now l.change.step.now) l.alternatives));
  narrow : l.size.extent ≤ 2 ^ 127 - 1;
  all : capped (l.size.extent + total (total item_extent) (map (changed_items l.change.vars.now l.change.step.now) (drop l.items-index l.alternatives))) ≡ capped (total (total item_extent) (map (changed_items l.change.vars.now l.change.step.now) l.alternatives));
  first : first_of (open_items l.change.vars.now l.change.step.now) (drop l.items-index l.alternatives) ≡ first_of (open_items l.change.vars.now l.change.step.now) l.alternatives;
}
