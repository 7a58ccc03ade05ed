use Rattle.std.proofs.Common.{◌≡◌, take}
use Rattle.pipeline_fill.specs.Entries.{patterns_of}
use Rattle.pipeline_fill.proofs.read_texts.read_values.Given as goal

abbrev pub invariant-loop-text : goal.invariant-loop-text
invariant-loop-text l = l.all.items ≡ patterns_of (take l.text-index l.texts)
