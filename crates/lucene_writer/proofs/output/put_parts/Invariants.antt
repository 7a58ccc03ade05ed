use Rattle.std.proofs.Common.{◌≡◌, ◌++◌, drop}
use Rattle.std.specs.List.{flat_map}
use Rattle.lucene_writer.specs.Pieces.{part_sign}
use Rattle.lucene_writer.proofs.output.put_parts.Given as goal

abbrev pub invariant-loop-part : goal.invariant-loop-part
invariant-loop-part l = l.out ++ flat_map part_sign (drop l.part-index l.parts) ≡ l.fn.out ++ flat_map part_sign l.parts
