use Rattle.std.proofs.Common.{◌≡◌, ◌≤◌, ◌+◌, ◌-◌, ◌^◌, drop}
use Rattle.pipeline_fill.specs.Counts.{capped}
use Rattle.pipeline_limits.specs.Sizes.{total, part_count}
use Rattle.pipeline_fill.proofs.measures.extent_kept.Given as goal

abbrev pub invariant-loop-test : goal.invariant-loop-test
invariant-loop-test l = record {
  narrow : l.extent ≤ 2 ^ 127 - 1;
  all : capped (l.extent + total part_count (drop l.test-index l.value)) ≡ capped (total part_count l.value);
}
