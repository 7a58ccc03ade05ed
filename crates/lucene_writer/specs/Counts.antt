-- The parentheses that are open at one place of a tree's text at most, and its leaf clauses, where it stands; both counted up to
-- the most that a number can be.
use Rattle.std.specs.Prelude.{ℕ, ◌+◌, min, max, Bool, true, false, not, List, [], ◌∷◌}
use Rattle.backend_core.specs.declared.tree.LeafTest.{LeafTest}
use Rattle.backend_core.specs.declared.tree.LeafTest.TheVariants as tests
use Rattle.backend_core.specs.declared.tree.Tree.{Tree}
use Rattle.backend_core.specs.Trees.{Plain, Plains, no_parts, a_part, all, any, negated, leaf, never}
use Rattle.backend_core.specs.View.{tree_view}
use Rattle.lucene_writer.specs.declared.place.Standing.{Standing}
use Rattle.lucene_writer.specs.declared.place.Standing.TheVariants.{Alone, InAnd}
use Rattle.lucene_writer.specs.Pieces.{is_whole, is_alone, is_in_and, are_denied}

abbrev pub one_if : Bool → ℕ
one_if true = 1
one_if false = 0

-- a test in parentheses
abbrev pub test_opens : Standing → LeafTest → ℕ
test_opens at tests.Has = 0
test_opens at tests.Absent = one_if (is_alone at)
test_opens at (tests.Fits [] cased) = one_if (is_alone at)
test_opens at (tests.Fits (p ∷ ps) cased) = 0
test_opens at (tests.Equals n) = 0
test_opens at (tests.Compare op n) = 0
test_opens at (tests.SameAs other) = one_if (is_alone at)
test_opens at (tests.Finds expression) = one_if (is_alone at)

-- a NOT stands behind *:* where it isn't in an all
abbrev pub test_clauses : Standing → LeafTest → ℕ
test_clauses at tests.Has = 1
test_clauses at tests.Absent = 1 + one_if (not (is_in_and at))
test_clauses at (tests.Fits [] cased) = 2
test_clauses at (tests.Fits (p ∷ ps) cased) = 1
test_clauses at (tests.Equals n) = 1
test_clauses at (tests.Compare op n) = 1
test_clauses at (tests.SameAs other) = 2
test_clauses at (tests.Finds expression) = 2

module _ (most : ℕ) where
  abbrev pub add : ℕ → ℕ → ℕ
  add a b = min (a + b) most

  abbrev mutual
    pub tree_opens : Standing → Plain → ℕ
    tree_opens at (all ts) = add (parts_opens InAnd ts) (one_if (not (is_whole at)))
    tree_opens at (any ts) = add (parts_opens Alone ts) (one_if (not (is_whole at)))
    tree_opens at (negated t) = add (tree_opens Alone t) (one_if (is_alone at))
    tree_opens at (leaf l) = min (test_opens at l.test) most
    tree_opens at never = min (one_if (is_alone at)) most

    pub parts_opens : Standing → Plains → ℕ
    parts_opens at no_parts = 0
    parts_opens at (a_part t ts) = max (tree_opens at t) (parts_opens at ts)

  abbrev mutual
    pub tree_clauses : Standing → Plain → ℕ
    tree_clauses at (all ts) = add (parts_clauses InAnd ts) (one_if (are_denied ts))
    tree_clauses at (any ts) = parts_clauses Alone ts
    tree_clauses at (negated t) = add (tree_clauses Alone t) (one_if (not (is_in_and at)))
    tree_clauses at (leaf l) = min (test_clauses at l.test) most
    tree_clauses at never = min 2 most

    pub parts_clauses : Standing → Plains → ℕ
    parts_clauses at no_parts = 0
    parts_clauses at (a_part t ts) = add (tree_clauses at t) (parts_clauses at ts)

  -- the same of the parts of a vector
  abbrev pub items_opens : Standing → List Tree → ℕ
  items_opens at [] = 0
  items_opens at (t ∷ ts) = max (tree_opens at (tree_view t)) (items_opens at ts)

  abbrev pub items_clauses : Standing → List Tree → ℕ
  items_clauses at [] = 0
  items_clauses at (t ∷ ts) = add (tree_clauses at (tree_view t)) (items_clauses at ts)
