use Rattle.std.proofs.Common.{◌≡◌, drop}
use Rattle.std.specs.Str.{chars}
use Rattle.yaml_tree.specs.View.{entries_view}
use Rattle.yaml_tree.specs.Nodes.{value_in}
use Rattle.yaml_tree.proofs.nodes.find_value.Given as goal

abbrev pub invariant-loop-entry : goal.invariant-loop-entry
invariant-loop-entry l = value_in (chars l.key) (entries_view l.entries) ≡ value_in (chars l.key) (entries_view (drop l.entry-index l.entries))
