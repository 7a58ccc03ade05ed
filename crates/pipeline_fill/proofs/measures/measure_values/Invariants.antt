use Rattle.std.proofs.Common.{◌≡◌, ◌≤◌, ◌+◌, ◌-◌, ◌^◌, max, length, map, drop}
use Rattle.std.specs.Prelude.{◌||◌}
use Rattle.std.specs.List.{list_any}
use Rattle.pipeline_fill.specs.Counts.{capped}
use Rattle.pipeline_limits.specs.Sizes.{total}
use Rattle.pipeline_fill.specs.Changed.{changed_value}
use Rattle.pipeline_fill.specs.Entries.{largest}
use Rattle.pipeline_fill.specs.Longest.{longest_value}
use Rattle.pipeline_fill.specs.Extent.{value_extent}
use Rattle.pipeline_fill.specs.Grown.{is_open}
use Rattle.pipeline_fill.proofs.measures.measure_values.Given as goal

abbrev pub invariant-loop-value : goal.invariant-loop-value
invariant-loop-value l = record {
  few : l.tests ≤ 2 ^ 127 - 1;
  short : l.longest ≤ 2 ^ 127 - 1;
  sum : capped (l.tests + total length (map (changed_value l.change.vars.now l.change.step.now.action) (drop l.value-index l.values))) ≡ capped (total length (map (changed_value l.change.vars.now l.change.step.now.action) l.values));
  most : capped (max l.longest (largest longest_value (map (changed_value l.change.vars.now l.change.step.now.action) (drop l.value-index l.values)))) ≡ capped (largest longest_value (map (changed_value l.change.vars.now l.change.step.now.action) l.values));
  narrow : l.extent ≤ 2 ^ 127 - 1;
  all : capped (l.extent + total value_extent (map (changed_value l.change.vars.now l.change.step.now.action) (drop l.value-index l.values))) ≡ capped (total value_extent (map (changed_value l.change.vars.now l.change.step.now.action) l.values));
  lacking : (l.lacking || list_any (list_any (is_open l.change.vars.now l.change.step.now.action)) (drop l.value-index l.values)) ≡ list_any (list_any (is_open l.change.vars.now l.change.step.now.action)) l.values;
}
