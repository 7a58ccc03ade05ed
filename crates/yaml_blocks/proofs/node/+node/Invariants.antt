use Rattle.std.proofs.Common.{◌≡◌, ◌+◌, ◌*◌, ◌-◌, [], true, false, length, drop}
use Rattle.yaml_tree.specs.View.{nodes_view, entries_view}
use Rattle.yaml_inline.specs.SeenKeys.{Knows}
use Rattle.yaml_inline.specs.View.{line_view}
use Rattle.yaml_inline.proofs.Flows.{keys_of}
use Rattle.yaml_blocks.specs.Reading.{offset, items_of}
use Rattle.yaml_blocks.specs.Views.{lines_view}
use Rattle.yaml_blocks.specs.Items.{elements_at, entries_at}
use Rattle.yaml_blocks.proofs.NodeTurns.{later, Outside, after_elements, after_entries}
use Rattle.yaml_blocks.proofs.node.+node.Given as goal

abbrev pub decreases-sequence : goal.decreases-sequence
decreases-sequence l = 8 * l.depth

abbrev pub decreases-map : goal.decreases-map
decreases-map l = 8 * l.depth

abbrev pub decreases-quoted_node : goal.decreases-quoted_node
decreases-quoted_node l = 8 * l.depth + 1

abbrev pub decreases-node : goal.decreases-node
decreases-node l = 8 * l.depth + 2

abbrev pub decreases-block : goal.decreases-block
decreases-block l = 8 * l.depth + 3

abbrev pub decreases-element : goal.decreases-element
decreases-element l = 8 * l.depth + 4

abbrev pub decreases-value : goal.decreases-value
decreases-value l = 8 * l.depth + 4

abbrev pub decreases-entry : goal.decreases-entry
decreases-entry l = 8 * l.depth + 5

abbrev pub decreases-elements : goal.decreases-elements
decreases-elements l = 8 * l.depth + 6

abbrev pub decreases-entries : goal.decreases-entries
decreases-entries l = 8 * l.depth + 6

-- what is left begins outside, and what is built before what is read of it is all
abbrev pub invariant-elements-loop-at : goal.invariant-elements-loop-at
invariant-elements-loop-at l = record {
  out : Outside false l.level (lines_view (drop l.at l.lines));
  far : after_elements (nodes_view l.elements.items) (elements_at l.fn.depth l.level (later false l.level (lines_view (drop l.at l.lines))))
      ≡ elements_at l.fn.depth (offset (line_view l.line) l.rest) (items_of false (line_view l.line) l.rest (lines_view l.lines));
}

abbrev pub decreases-elements-loop-at : goal.decreases-elements-loop-at
decreases-elements-loop-at l = length l.lines - l.at

abbrev pub invariant-entries-loop-at : goal.invariant-entries-loop-at
invariant-entries-loop-at l = record {
  out : Outside true l.level (lines_view (drop l.at l.lines));
  far : after_entries (entries_view l.entries.items) (entries_at l.fn.depth l.level (keys_of (entries_view l.entries.items)) (later true l.level (lines_view (drop l.at l.lines))))
      ≡ entries_at l.fn.depth (offset (line_view l.line) l.rest) [] (items_of true (line_view l.line) l.rest (lines_view l.lines));
  known : Knows l.seen (keys_of (entries_view l.entries.items));
}

abbrev pub decreases-entries-loop-at : goal.decreases-entries-loop-at
decreases-entries-loop-at l = length l.lines - l.at
