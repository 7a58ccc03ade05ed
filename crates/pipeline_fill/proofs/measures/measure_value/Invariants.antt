use Rattle.std.proofs.Common.{◌≡◌, ◌≤◌, ◌+◌, ◌-◌, ◌^◌, max, length, drop}
use Rattle.std.specs.Prelude.{◌||◌}
use Rattle.std.specs.List.{list_any, flat_map}
use Rattle.pipeline_fill.specs.Counts.{capped}
use Rattle.pipeline_fill.specs.Changed.{changed_test, changed_value}
use Rattle.pipeline_limits.specs.Sizes.{total, part_count}
use Rattle.pipeline_fill.specs.Entries.{largest}
use Rattle.pipeline_fill.specs.Grown.{is_open}
use Rattle.pipeline_fill.proofs.measures.measure_value.Given as goal

abbrev pub invariant-loop-test : goal.invariant-loop-test
invariant-loop-test l = record {
  few : l.tests ≤ 2 ^ 127 - 1;
  short : l.longest ≤ 2 ^ 127 - 1;
  sum : capped (l.tests + length (changed_value l.change.vars.now l.change.step.now.action (drop l.test-index l.value))) ≡ capped (length (changed_value l.change.vars.now l.change.step.now.action l.value));
  most : capped (max l.longest (largest part_count (flat_map (changed_test l.change.vars.now l.change.step.now.action) (drop l.test-index l.value)))) ≡ capped (largest part_count (flat_map (changed_test l.change.vars.now l.change.step.now.action) l.value));
  narrow : l.extent ≤ 2 ^ 127 - 1;
  all : capped (l.extent + total part_count (flat_map (changed_test l.change.vars.now l.change.step.now.action) (drop l.test-index l.value))) ≡ capped (total part_count (flat_map (changed_test l.change.vars.now l.change.step.now.action) l.value));
  lacking : (l.lacking || list_any (is_open l.change.vars.now l.change.step.now.action) (drop l.test-index l.value)) ≡ list_any (is_open l.change.vars.now l.change.step.now.action) l.value;
}
