use Rattle.std.proofs.Common.{◌≡◌, ◌≤◌, ◌+◌, ◌-◌, ◌^◌, max, drop}
use Rattle.pipeline_fill.specs.Counts.{capped}
use Rattle.pipeline_fill.specs.Entries.{longest_of, extent_of}
use Rattle.pipeline_fill.proofs.read_texts.measured.Given as goal

abbrev pub invariant-loop-text : goal.invariant-loop-text
invariant-loop-text l = record {
  most : max l.longest (longest_of (drop l.text-index l.texts)) ≡ longest_of l.texts;
  narrow : l.extent ≤ 2 ^ 127 - 1;
  all : capped (l.extent + extent_of (drop l.text-index l.texts)) ≡ capped (extent_of l.texts);
}
