use Rattle.std.proofs.Common.{◌≡◌, ◌+◌, ◌*◌, drop, false}
use Rattle.backend_core.specs.View.{tree_view}
use Rattle.sqlite_writer.specs.Pieces.{word_of, row_text, items_text}
use Rattle.sqlite_writer.specs.Sizes.{bytes_in}
use Rattle.sqlite_writer.proofs.Rows.{nodes, items_nodes}
use Rattle.sqlite_writer.proofs.sizes.+sizes.Given as goal

abbrev pub decreases-with_parts : goal.decreases-with_parts
decreases-with_parts l = 1 + 3 * items_nodes l.parts.now

abbrev pub decreases-with_list : goal.decreases-with_list
decreases-with_list l = 2 + 3 * items_nodes l.parts.now

abbrev pub decreases-with_tree : goal.decreases-with_tree
decreases-with_tree l = 3 * nodes (tree_view l.tree.now)

abbrev pub invariant-with_parts-loop-part : goal.invariant-with_parts-loop-part
invariant-with_parts-loop-part l =
    l.sum + bytes_in (row_text (word_of l.kind) l.behind (items_text l.fields l.at (drop l.part-index l.parts)))
    ≡ l.size + bytes_in (row_text (word_of l.kind) false (items_text l.fields l.at l.parts))
