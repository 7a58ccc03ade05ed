use Rattle.std.proofs.Common.{◌≡◌, ◌+◌, ◌*◌, ◌-◌, ◌^◌, drop, None}
use Rattle.backend_core.specs.View.{tree_view}
use Rattle.sqlite_writer.specs.Depths.{row_behind, items_depth}
use Rattle.sqlite_writer.proofs.Rows.{nodes, items_nodes}
use Rattle.sqlite_writer.proofs.deep.+depths.Given as goal

abbrev pub decreases-parts_depth : goal.decreases-parts_depth
decreases-parts_depth l = 1 + 2 * items_nodes l.parts.now

abbrev pub decreases-tree_depth : goal.decreases-tree_depth
decreases-tree_depth l = 2 * nodes (tree_view l.tree.now)

abbrev pub invariant-parts_depth-loop-part : goal.invariant-parts_depth-loop-part
invariant-parts_depth-loop-part l =
    row_behind (2 ^ 64 - 1) l.depth (items_depth (2 ^ 64 - 1) l.fields (drop l.part-index l.parts)) ≡ row_behind (2 ^ 64 - 1) None (items_depth (2 ^ 64 - 1) l.fields l.parts)
