-- Trees joined to one: no list has one part alone, and none is of the kind of the list that it stands in.
use Rattle.std.specs.Prelude.{List, [], ◌∷◌}
use Rattle.std.specs.List.{flat_map}
use Rattle.backend_core.specs.Trees.{Plain, all, any, negated, leaf, never, Plains, no_parts, a_part}
use Rattle.modifier_words.specs.declared.modifier.Joined.{Joined}
use Rattle.modifier_words.specs.declared.modifier.Joined.TheVariants.{All, Any}

abbrev pub plains : List Plain → Plains
plains [] = no_parts
plains (t ∷ ts) = a_part t (plains ts)

abbrev pub listed : Plains → List Plain
listed no_parts = []
listed (a_part t ts) = t ∷ listed ts

-- what a tree adds to an All, or to an Any: the parts of a tree of the same kind, else the tree
abbrev pub parts_of : Joined → Plain → List Plain
parts_of All (all ts) = listed ts
parts_of All (any ts) = any ts ∷ []
parts_of All (negated t) = negated t ∷ []
parts_of All (leaf l) = leaf l ∷ []
parts_of All never = never ∷ []
parts_of Any (all ts) = all ts ∷ []
parts_of Any (any ts) = listed ts
parts_of Any (negated t) = negated t ∷ []
parts_of Any (leaf l) = leaf l ∷ []
parts_of Any never = never ∷ []

abbrev pub tree_with : Joined → Plains → Plain
tree_with All ts = all ts
tree_with Any ts = any ts

-- a list of one is its element
abbrev pub closed : Joined → List Plain → Plain
closed joined [] = tree_with joined no_parts
closed joined (t ∷ []) = t
closed joined (t ∷ u ∷ ts) = tree_with joined (plains (t ∷ u ∷ ts))

-- all of the trees, or any of them
unfoldable pub join : Joined → List Plain → Plain
join joined ts = closed joined (flat_map (parts_of joined) ts)
