use Rattle.std.proofs.Common.{◌≡◌, ◌-◌, ◌^◌, drop}
use Rattle.std.specs.Prelude.{max}
use Rattle.lucene_writer.specs.Counts.{items_opens}
use Rattle.lucene_writer.proofs.counts.+opens.Given as goal

abbrev pub invariant-parts_opens-loop-part : goal.invariant-parts_opens-loop-part
invariant-parts_opens-loop-part l = max l.most (items_opens (2 ^ 64 - 1) l.at (drop l.part-index l.parts)) ≡ items_opens (2 ^ 64 - 1) l.at l.parts
