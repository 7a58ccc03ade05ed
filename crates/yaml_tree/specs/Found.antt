-- What a search in a map answers.
use Rattle.std.specs.Prelude.{◌≡◌, Some, None}
use Rattle.std.specs.Borrow.{Bor}
use Rattle.std.specs.declared.option.Option.{Option}
use Rattle.yaml_tree.specs.Tree.{Tree}
use Rattle.yaml_tree.specs.View.{node_view}
use Rattle.yaml_tree.specs.declared.tree.Node.{Node}

-- the node is this value, or there is none
abbrev pub IsFound : Option Tree → Option (Bor Node) → Type 0
IsFound value None = value ≡ None
IsFound value (Some n) = value ≡ Some (node_view n.now)
