use Rattle.std.proofs.Common.{◌-◌, ◌^◌}
use Rattle.lucene_writer.proofs.CountRows.{clauses_of_all, clauses_of_any, clauses_end}
use Rattle.lucene_writer.proofs.counts.+clauses.Goals as goal

pub parts_clauses-returns : goal.parts_clauses-returns
parts_clauses-returns t c =
    clauses_end (2 ^ 64 - 1) c.args.at c.args.parts.now c.loop-part.part-index c.loop-part.count c.loop-part-test.false c.loop-part.invariant.0 c.loop-part.invariant.1

pub tree_clauses-returns-in-All : goal.tree_clauses-returns-in-All
tree_clauses-returns-in-All t c =
    clauses_of_all (2 ^ 64 - 1) c.args.at c.in-All.parts c.args.tree.now c.as_slice-parts.result.now _ _ _ c.in-All.is c.as_slice-parts.ensures.value
    c.add.ensures c.parts_clauses-inside.ensures c.leading.ensures

pub tree_clauses-returns-in-Any : goal.tree_clauses-returns-in-Any
tree_clauses-returns-in-Any t c =
    clauses_of_any (2 ^ 64 - 1) c.args.at c.in-Any.parts c.args.tree.now c.as_slice.result.now _ c.in-Any.is c.as_slice.ensures.value c.parts_clauses.ensures
