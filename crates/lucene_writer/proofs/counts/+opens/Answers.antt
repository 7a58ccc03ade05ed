use Rattle.std.proofs.Common.{◌-◌, ◌^◌}
use Rattle.lucene_writer.proofs.CountRows.{opens_of_all, opens_of_any, opens_end}
use Rattle.lucene_writer.proofs.counts.+opens.Goals as goal

pub parts_opens-returns : goal.parts_opens-returns
parts_opens-returns t c = opens_end (2 ^ 64 - 1) c.args.at c.args.parts.now c.loop-part.part-index c.loop-part.most _ c.loop-part-test.false c.loop-part.invariant

pub tree_opens-returns-in-All : goal.tree_opens-returns-in-All
tree_opens-returns-in-All t c =
    opens_of_all (2 ^ 64 - 1) c.args.at c.in-All.parts c.args.tree.now c.as_slice.result.now _ _ _ c.in-All.is c.as_slice.ensures.value
    c.add.ensures c.parts_opens-inside.ensures c.around.ensures

pub tree_opens-returns-in-Any : goal.tree_opens-returns-in-Any
tree_opens-returns-in-Any t c =
    opens_of_any (2 ^ 64 - 1) c.args.at c.in-Any.parts c.args.tree.now c.as_slice-in-Any.result.now _ _ _ c.in-Any.is c.as_slice-in-Any.ensures.value
    c.add-in-Any.ensures c.parts_opens-inside-in-Any.ensures c.around-in-Any.ensures
