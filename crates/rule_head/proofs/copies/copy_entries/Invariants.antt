use Rattle.std.proofs.Common.{◌≡◌, take}
use Rattle.yaml_tree.specs.View.{entries_view}
use Rattle.rule_head.proofs.copies.copy_entries.Given as goal

abbrev pub invariant-loop-entry : goal.invariant-loop-entry
invariant-loop-entry l = entries_view l.copies.items ≡ entries_view (take l.entry-index l.entries)
