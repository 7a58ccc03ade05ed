-- How many nodes trees have (YAML 1.2, 3.2.1.1, without the scalars that are keys).
use Rattle.std.specs.Prelude.{ℕ, ◌+◌, List, [], ◌∷◌}
use Rattle.yaml_tree.specs.Tree.{Tree, scalar, list, map, Elements, no_elements, element, Members, no_members, member, Answer, tree, refusal}

-- A scalar is one node. A collection is one, and its elements or values are further nodes.
abbrev mutual
  pub nodes : Tree → ℕ
  nodes (scalar a s) = 1
  nodes (list a es) = 1 + element_nodes es
  nodes (map a ms) = 1 + value_nodes ms

  pub element_nodes : Elements → ℕ
  element_nodes no_elements = 0
  element_nodes (element t es) = nodes t + element_nodes es

  pub value_nodes : Members → ℕ
  value_nodes no_members = 0
  value_nodes (member k a t ms) = nodes t + value_nodes ms

-- A document that is refused has none.
abbrev pub nodes_of : Answer → ℕ
nodes_of (tree t) = nodes t
nodes_of (refusal p) = 0

-- the nodes of all documents of a file
abbrev pub all_nodes : List Answer → ℕ
all_nodes [] = 0
all_nodes (a ∷ others) = nodes_of a + all_nodes others
