use Rattle.std.proofs.Common.{◌≡◌, ◌≤◌, ◌-◌, ◌^◌, max, drop}
use Rattle.pipeline_fill.specs.Counts.{capped}
use Rattle.pipeline_limits.specs.Sizes.{part_count}
use Rattle.pipeline_fill.specs.Entries.{largest}
use Rattle.pipeline_fill.proofs.measures.longest_kept.Given as goal

abbrev pub invariant-loop-test : goal.invariant-loop-test
invariant-loop-test l = record {
  short : l.longest ≤ 2 ^ 127 - 1;
  most : capped (max l.longest (largest part_count (drop l.test-index l.value))) ≡ capped (largest part_count l.value);
}
