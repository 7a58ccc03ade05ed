use Rattle.std.proofs.Common.{◌≡◌, take}
use Rattle.yaml_tree.specs.View.{nodes_view, entries_view}
use Rattle.yaml_tree.proofs.tree.+copy.Given as goal

abbrev pub invariant-copy_entries-loop-entry : goal.invariant-copy_entries-loop-entry
invariant-copy_entries-loop-entry l = entries_view l.copies.items ≡ entries_view (take l.entry-index l.entries)

abbrev pub invariant-copy_nodes-loop-node : goal.invariant-copy_nodes-loop-node
invariant-copy_nodes-loop-node l = nodes_view l.copies.items ≡ nodes_view (take l.node-index l.nodes)
