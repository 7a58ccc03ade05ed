use Rattle.std.proofs.Common.{ℕ, ◌+◌, ◌*◌, ◌<◌, ◌≤◌, length}
use Rattle.yaml_tree.specs.View.{nodes_view, entries_view}
use Rattle.yaml_inline.specs.Flow.{flow_node}
use Rattle.yaml_inline.specs.SeenKeys.{Knows}
use Rattle.yaml_inline.specs.View.{line_view}
use Rattle.yaml_inline.proofs.Flows.{ElementsSoFar, EntriesSoFar, keys_of}
use Rattle.yaml_inline.proofs.flow.+flow.Given as goal

abbrev pub decreases-flow_element : goal.decreases-flow_element
decreases-flow_element l = 4 * l.depth + 1

abbrev pub decreases-flow_elements : goal.decreases-flow_elements
decreases-flow_elements l = 4 * l.depth + 3

abbrev pub decreases-flow_entries : goal.decreases-flow_entries
decreases-flow_entries l = 4 * l.depth + 3

abbrev pub decreases-flow_entry : goal.decreases-flow_entry
decreases-flow_entry l = 4 * l.depth + 2

abbrev pub decreases-flow_node : goal.decreases-flow_node
decreases-flow_node l = 4 * l.depth

abbrev pub decreases-flow_value : goal.decreases-flow_value
decreases-flow_value l = 4 * l.depth + 1

abbrev pub invariant-flow_elements-elements : goal.invariant-flow_elements-elements
invariant-flow_elements-elements l = record {
  within : length l.rest ≤ length l.fn.rest;
  far : (n : ℕ) → length l.fn.rest < n → ElementsSoFar (flow_node l.fn.depth) (line_view l.line) n l.fn.rest (nodes_view l.elements.items) l.rest;
}

abbrev pub decreases-flow_elements-elements : goal.decreases-flow_elements-elements
decreases-flow_elements-elements l = length l.rest

abbrev pub invariant-flow_entries-entries : goal.invariant-flow_entries-entries
invariant-flow_entries-entries l = record {
  within : length l.rest ≤ length l.fn.rest;
  far : (n : ℕ) → length l.fn.rest < n → EntriesSoFar (flow_node l.fn.depth) (line_view l.line) n l.fn.rest (entries_view l.entries.items) l.rest;
  known : Knows l.seen (keys_of (entries_view l.entries.items));
}

abbrev pub decreases-flow_entries-entries : goal.decreases-flow_entries-entries
decreases-flow_entries-entries l = length l.rest
