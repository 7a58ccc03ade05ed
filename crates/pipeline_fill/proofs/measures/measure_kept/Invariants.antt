use Rattle.std.proofs.Common.{◌≡◌, ◌≤◌, ◌+◌, ◌-◌, ◌^◌, max, length, drop}
use Rattle.pipeline_fill.specs.Counts.{capped}
use Rattle.pipeline_limits.specs.Sizes.{total}
use Rattle.pipeline_fill.specs.Entries.{largest}
use Rattle.pipeline_fill.specs.Longest.{longest_value}
use Rattle.pipeline_fill.specs.Extent.{value_extent}
use Rattle.pipeline_fill.proofs.measures.measure_kept.Given as goal

abbrev pub invariant-loop-value : goal.invariant-loop-value
invariant-loop-value l = record {
  few : l.tests ≤ 2 ^ 127 - 1;
  short : l.longest ≤ 2 ^ 127 - 1;
  sum : capped (l.tests + total length (drop l.value-index l.values)) ≡ capped (total length l.values);
  most : capped (max l.longest (largest longest_value (drop l.value-index l.values))) ≡ capped (largest longest_value l.values);
  narrow : l.extent ≤ 2 ^ 127 - 1;
  all : capped (l.extent + total value_extent (drop l.value-index l.values)) ≡ capped (total value_extent l.values);
}
