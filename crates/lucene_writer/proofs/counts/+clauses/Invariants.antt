use Rattle.std.proofs.Common.{◌≡◌, ◌≤◌, ◌+◌, ◌-◌, ◌^◌, drop}
use Rattle.std.specs.Prelude.{min}
use Rattle.lucene_writer.specs.Counts.{items_clauses}
use Rattle.lucene_writer.proofs.counts.+clauses.Given as goal

abbrev pub invariant-parts_clauses-loop-part : goal.invariant-parts_clauses-loop-part
invariant-parts_clauses-loop-part l =
    (l.count ≤ 2 ^ 64 - 1)
    × (min (l.count + items_clauses (2 ^ 64 - 1) l.at (drop l.part-index l.parts)) (2 ^ 64 - 1) ≡ min (items_clauses (2 ^ 64 - 1) l.at l.parts) (2 ^ 64 - 1))
