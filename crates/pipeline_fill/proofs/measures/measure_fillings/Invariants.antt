use Rattle.std.proofs.Common.{◌≡◌, ◌≤◌, ◌+◌, ◌*◌, ◌-◌, ◌^◌, drop}
use Rattle.std.specs.Prelude.{◌||◌}
use Rattle.std.specs.List.{list_any}
use Rattle.pipeline_fill.specs.Counts.{capped}
use Rattle.pipeline_fill.specs.Filled.{lacks_values}
use Rattle.pipeline_fill.specs.Made.{counted, summed, filled_extent}
use Rattle.pipeline_fill.proofs.measures.measure_fillings.Given as goal

abbrev pub invariant-loop-part : goal.invariant-loop-part
invariant-loop-part l = record {
  few : l.tests ≤ 2 ^ 127 - 1;
  short : l.longest ≤ 2 ^ 127 - 1;
  product : capped (l.tests * counted l.change.vars.now l.change.step.now.action (drop l.part-index l.parts)) ≡ capped (counted l.change.vars.now l.change.step.now.action l.parts);
  sum : capped (l.longest + summed l.change.vars.now l.change.step.now.action (drop l.part-index l.parts)) ≡ capped (summed l.change.vars.now l.change.step.now.action l.parts);
  narrow : l.extent ≤ 2 ^ 127 - 1;
  all : capped (l.extent * counted l.change.vars.now l.change.step.now.action (drop l.part-index l.parts) + l.tests * filled_extent l.change.vars.now l.change.step.now.action (drop l.part-index l.parts)) ≡ capped (filled_extent l.change.vars.now l.change.step.now.action l.parts);
  lacking : (l.lacking || list_any (lacks_values l.change.vars.now l.change.step.now.action) (drop l.part-index l.parts)) ≡ list_any (lacks_values l.change.vars.now l.change.step.now.action) l.parts;
}
