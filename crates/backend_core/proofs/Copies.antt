-- The trees of a vector, and one more.
use Rattle.std.proofs.Common.{ℕ, ◌≡◌, ◌≤◌, refl, sym, ◌∙◌, ap, List, [], ◌∷◌, ◌++◌, append-nil, length, drop, map}
use Rattle.std.proofs.lemmas.List.{drop_all}
use Rattle.backend_core.specs.declared.tree.Tree.{Tree, Row_of-Tree, end_of-Tree, more_of-Tree, items-the_row-Tree}
use Rattle.backend_core.specs.Trees.{Plain, Plains, no_parts, a_part}
use Rattle.backend_core.specs.View.{tree_view, trees_view, plains_of}

pub row_plains : (n : _) (k : Row_of-Tree n) → trees_view k ≡ plains_of (items-the_row-Tree n k)
row_plains _ end_of-Tree = refl
row_plains _ (more_of-Tree t rest) = ap (λ (ts : Plains). a_part (tree_view t) ts) (row_plains _ rest)

listed : List Plain → Plains
listed [] = no_parts
listed (t ∷ ts) = a_part t (listed ts)

plains_listed : (ts : List Tree) → plains_of ts ≡ listed (map tree_view ts)
unfolding listed
plains_listed [] = refl
plains_listed (t ∷ ts) = ap (λ (rest : Plains). a_part (tree_view t) rest) (plains_listed ts)

-- a loop over the parts has come to its end
pub copied : (copies ts : List Tree) (i : ℕ) → length ts ≤ i → map tree_view copies ++ map tree_view (drop i ts) ≡ map tree_view ts → plains_of copies ≡ plains_of ts
copied copies ts i past h =
    let none = drop_all i ts past in
    let same : map tree_view copies ≡ map tree_view ts = sym (append-nil (map tree_view copies)) ∙ rw none at h in
    plains_listed copies ∙ (ap listed same ∙ sym (plains_listed ts))
