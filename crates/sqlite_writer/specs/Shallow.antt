-- How deep the lists of a tree are.
use Rattle.std.specs.Prelude.{ℕ, ◌+◌, ◌*◌, ◌^◌, ◌≤◌, List, ⊤}
use Rattle.event_schema.specs.declared.schema.Field.{Field}
use Rattle.sql_lang.specs.Expression.{or_expr, depth}
use Rattle.sql_layout.specs.Trees.{Tree, leaf, all, any, negated, Trees, no_trees, a_tree}
use Rattle.sql_layout.specs.Halves.{or_count, and_count, ShallowOrs, ShallowAnds}
use Rattle.sql_layout.specs.HalvedTrees.{form, layout}

module _ (fields : List Field) where
  -- An all of k parts, each at most d deep, is at most d + 63 + h deep, where k is at most 64 * 2 ^ h. What is joined into the
  -- all, as guards are, counts among its parts.
  abbrev pub IsShallowAll : Tree → Type 0
  IsShallowAll t = (d h : ℕ) → ShallowAnds fields d (form t).in_and → and_count (form t).in_and ≤ 64 * 2 ^ h → depth (or_expr fields (layout t)) ≤ d + 63 + h

  -- and so is an any
  abbrev pub IsShallowAny : Tree → Type 0
  IsShallowAny t = (d h : ℕ) → ShallowOrs fields d (form t).in_or → or_count (form t).in_or ≤ 64 * 2 ^ h → depth (or_expr fields (layout t)) ≤ d + 63 + h

  -- each list of a tree
  abbrev mutual
    pub ListsAreShallow : Tree → Type 0
    ListsAreShallow (leaf l) = ⊤
    ListsAreShallow (all t ts) = IsShallowAll (all t ts) × ListsAreShallow t × EachIsShallow ts
    ListsAreShallow (any t ts) = IsShallowAny (any t ts) × ListsAreShallow t × EachIsShallow ts
    ListsAreShallow (negated t) = ListsAreShallow t

    pub EachIsShallow : Trees → Type 0
    EachIsShallow no_trees = ⊤
    EachIsShallow (a_tree t ts) = ListsAreShallow t × EachIsShallow ts
