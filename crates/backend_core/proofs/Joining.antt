-- Trees joined into lists of their kind.
use Rattle.std.proofs.Common.{◌≡◌, rules, refl, sym, ◌∙◌, ap, List, [], ◌∷◌, ◌++◌, Box}
use Rattle.std.specs.declared.alloc.Global.{Global}
use Rattle.std.specs.declared.vec.Vec.{Vec}
use Rattle.backend_core.specs.Joins.{append, all_parts, any_parts}
use Rattle.backend_core.specs.Trees.{Plain, Plains, no_parts, a_part, all, any, negated, leaf, never}
use Rattle.backend_core.specs.View.{tree_view, plains_of}
use Rattle.backend_core.specs.declared.tree.Leaf.{Leaf}
use Rattle.backend_core.specs.declared.tree.Tree.{Tree}
use Rattle.backend_core.specs.declared.tree.Tree as trees
use Rattle.backend_core.specs.declared.tree.Tree.TheViews.{the_lemmas}
use Rattle.backend_core.proofs.Copies.{row_plains}

pub view-All : (v : Vec Tree Global) → tree_view (trees.All v) ≡ all (plains_of v.items)
view-All v = search (rules, the_lemmas, row_plains)

pub view-Any : (v : Vec Tree Global) → tree_view (trees.Any v) ≡ any (plains_of v.items)
view-Any v = search (rules, the_lemmas, row_plains)

view-Not : (b : Box Tree Global) → tree_view (trees.Not b) ≡ negated (tree_view b.value)
view-Not b = search (rules, the_lemmas)

plains_joined : (xs ys : List Tree) → plains_of (xs ++ ys) ≡ append (plains_of xs) (plains_of ys)
plains_joined [] ys = refl
plains_joined (x ∷ xs) ys = ap (λ (us : Plains). a_part (tree_view x) us) (plains_joined xs ys)

-- ---- one more part, where these are the parts of a tree

module _ (parts : Plain → Plains) (old new : List Tree) (tree : Tree) where
  abbrev pub Adds : Type 0
  Adds = plains_of new ≡ append (plains_of old) (parts (tree_view tree))

  -- the tree itself
  pushed : (t : Tree) (u : Plain) → tree ≡ t → tree_view t ≡ u → parts u ≡ a_part u no_parts → new ≡ old ++ t ∷ [] → Adds
  pushed t u is view alone items =
      let same : tree_view tree ≡ u = ap tree_view is ∙ view in
      ap plains_of items
      ∙ (plains_joined old (t ∷ [])
      ∙ ap (append (plains_of old)) (ap (λ (x : Plain). a_part x no_parts) view ∙ (sym alone ∙ ap parts (sym same))))

  moved : (inner : List Tree) → parts (tree_view tree) ≡ plains_of inner → new ≡ old ++ inner → Adds
  moved inner are items = ap plains_of items ∙ (plains_joined old inner ∙ ap (append (plains_of old)) (sym are))

  pub pushed_not : (b : Box Tree Global) → ((u : Plain) → parts (negated u) ≡ a_part (negated u) no_parts) → tree ≡ trees.Not b → new ≡ old ++ trees.Not b ∷ [] → Adds
  pushed_not b alone is items = pushed (trees.Not b) (negated (tree_view b.value)) is (view-Not b) (alone (tree_view b.value)) items

  pub pushed_leaf : (l : Leaf) → parts (leaf l) ≡ a_part (leaf l) no_parts → tree ≡ trees.Leaf l → new ≡ old ++ trees.Leaf l ∷ [] → Adds
  pushed_leaf l alone is items = pushed (trees.Leaf l) (leaf l) is refl alone items

  pub pushed_never : parts never ≡ a_part never no_parts → tree ≡ trees.Never → new ≡ old ++ trees.Never ∷ [] → Adds
  pushed_never alone is items = pushed trees.Never never is refl alone items

module _ (old new : List Tree) (v : Vec Tree Global) (tree : Tree) where
  pub moved_all : tree ≡ trees.All v → new ≡ old ++ v.items → Adds all_parts old new tree
  moved_all is items = moved all_parts old new tree v.items (ap all_parts (ap tree_view is ∙ view-All v)) items

  pub moved_any : tree ≡ trees.Any v → new ≡ old ++ v.items → Adds any_parts old new tree
  moved_any is items = moved any_parts old new tree v.items (ap any_parts (ap tree_view is ∙ view-Any v)) items

  pub pushed_any : tree ≡ trees.Any v → new ≡ old ++ trees.Any v ∷ [] → Adds all_parts old new tree
  pushed_any is items = pushed all_parts old new tree (trees.Any v) (any (plains_of v.items)) is (view-Any v) refl items

  pub pushed_all : tree ≡ trees.All v → new ≡ old ++ trees.All v ∷ [] → Adds any_parts old new tree
  pushed_all is items = pushed any_parts old new tree (trees.All v) (all (plains_of v.items)) is (view-All v) refl items
