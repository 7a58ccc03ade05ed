-- The tree that a value of the crate's types is.
use Rattle.std.specs.Prelude.{List, [], ◌∷◌}
use Rattle.backend_core.specs.declared.tree.Tree.{Tree, All', Any', Not', Row_of-Tree, end_of-Tree, more_of-Tree}
use Rattle.backend_core.specs.declared.tree.Tree as trees
use Rattle.backend_core.specs.Trees.{Plain, all, any, negated, leaf, never, Plains, no_parts, a_part}

abbrev mutual
  pub tree_view : Tree → Plain
  tree_view (trees.All' shape parts) = all (trees_view parts)
  tree_view (trees.Any' shape parts) = any (trees_view parts)
  tree_view (trees.Not' p part) = negated (tree_view part)
  tree_view (trees.Leaf l) = leaf l
  tree_view trees.Never = never

  pub trees_view : {m : _} → Row_of-Tree m → Plains
  trees_view end_of-Tree = no_parts
  trees_view (more_of-Tree t rest) = a_part (tree_view t) (trees_view rest)

-- the trees of a vector
abbrev pub plains_of : List Tree → Plains
plains_of [] = no_parts
plains_of (t ∷ ts) = a_part (tree_view t) (plains_of ts)
