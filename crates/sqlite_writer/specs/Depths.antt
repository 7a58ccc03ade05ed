-- How deep the expression of a tree is whose guards are tests of their own, counted up to the most that a number can be.
use Rattle.std.specs.Prelude.{ℕ, ◌+◌, max, min, Bool, true, false, List, [], ◌∷◌, map, Option, Some, None}
use Rattle.event_schema.specs.declared.schema.Field.{Field}
use Rattle.event_schema.specs.declared.schema.FieldKind.{FieldKind}
use Rattle.event_schema.specs.declared.schema.FieldKind.TheVariants as kinds
use Rattle.sig_strings.specs.Edits.{has_wildcard}
use Rattle.backend_core.specs.FieldAt.{kind_at}
use Rattle.backend_core.specs.declared.tree.LeafTest.{LeafTest}
use Rattle.backend_core.specs.declared.tree.LeafTest.TheVariants as tests
use Rattle.backend_core.specs.declared.tree.Tree.{Tree}
use Rattle.backend_core.specs.Trees.{Plain, Plains, no_parts, a_part, all, any, negated, leaf, never}
use Rattle.backend_core.specs.View.{tree_view}
use Rattle.sql_layout.specs.Lists.{halved}

-- COLLATE NOCASE makes a test 1 deeper
abbrev pub text_depth : Bool → Bool → ℕ
text_depth true cased = 2
text_depth false true = 2
text_depth false false = 3

abbrev pub same_depth : FieldKind → ℕ
same_depth kinds.Text = 3
same_depth kinds.Whole = 2
same_depth kinds.Address = 3

abbrev pub written_depth : List Field → LeafTest → ℕ
written_depth fields tests.Has = 2
written_depth fields tests.Absent = 2
written_depth fields (tests.Fits pattern cased) = text_depth (has_wildcard pattern) cased
written_depth fields (tests.Equals n) = 2
written_depth fields (tests.Compare op n) = 2
written_depth fields (tests.SameAs other) = same_depth (kind_at fields other)
written_depth fields (tests.Finds expression) = 2

abbrev pub or_zero : Option ℕ → ℕ
or_zero None = 0
or_zero (Some d) = d

module _ (most : ℕ) where
  abbrev pub one_more : ℕ → ℕ
  one_more d = min (d + 1) most

  -- what two that are joined by a word make
  abbrev pub two_depths : ℕ → ℕ → ℕ
  two_depths first second = one_more (max first second)

  -- a row of which what stands before is so deep, or nothing stands there, with a part that is d deep
  abbrev pub joined_depth : Option ℕ → ℕ → ℕ
  joined_depth None d = d
  joined_depth (Some before) d = two_depths before d

  abbrev pub row_behind : Option ℕ → List ℕ → Option ℕ
  row_behind before [] = before
  row_behind before (d ∷ ds) = row_behind (Some (joined_depth before d)) ds

  abbrev pub row_depth : List ℕ → ℕ
  row_depth ds = or_zero (row_behind None ds)

  abbrev pub halved_depth : List ℕ → ℕ
  halved_depth ds = halved row_depth two_depths ds

  module _ (fields : List Field) where
    abbrev mutual
      pub tree_depth : Plain → ℕ
      tree_depth (all ts) = halved_depth (parts_depth ts)
      tree_depth (any ts) = halved_depth (parts_depth ts)
      tree_depth (negated t) = one_more (tree_depth t)
      tree_depth (leaf l) = written_depth fields l.test
      tree_depth never = 1

      pub parts_depth : Plains → List ℕ
      parts_depth no_parts = []
      parts_depth (a_part t ts) = tree_depth t ∷ parts_depth ts

    -- the same of the parts of a vector
    abbrev pub items_depth : List Tree → List ℕ
    items_depth ts = map (λ t. tree_depth (tree_view t)) ts
