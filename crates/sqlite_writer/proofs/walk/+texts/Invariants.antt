use Rattle.std.proofs.Common.{◌≡◌, ◌+◌, ◌*◌, ◌++◌, drop, false}
use Rattle.backend_core.specs.View.{tree_view}
use Rattle.sqlite_writer.specs.Pieces.{word_of, row_text, items_text}
use Rattle.sqlite_writer.proofs.Rows.{nodes, items_nodes}
use Rattle.sqlite_writer.proofs.walk.+texts.Given as goal

abbrev pub decreases-put_parts : goal.decreases-put_parts
decreases-put_parts l = 1 + 3 * items_nodes l.parts.now

abbrev pub decreases-put_list : goal.decreases-put_list
decreases-put_list l = 2 + 3 * items_nodes l.parts.now

abbrev pub decreases-put_tree : goal.decreases-put_tree
decreases-put_tree l = 3 * nodes (tree_view l.tree.now)

abbrev pub invariant-put_parts-loop-part : goal.invariant-put_parts-loop-part
invariant-put_parts-loop-part l =
    l.out ++ row_text (word_of l.kind) l.behind (items_text l.fields l.at (drop l.part-index l.parts))
    ≡ l.fn.out ++ row_text (word_of l.kind) false (items_text l.fields l.at l.parts)
