-- The tree that is written, as data: below an odd number of words NOT a test that would be unknown where there is no value
-- stands behind the test that there is one, and one of two fields behind both; what is of a list's own kind is joined into the list.
use Rattle.std.specs.Prelude.{ℕ, Bool, true, false, not, ◌&&◌, Option, Some, None}
use Rattle.backend_core.specs.declared.tree.Leaf.{Leaf}
use Rattle.backend_core.specs.declared.tree.LeafTest.TheVariants as tests
use Rattle.backend_core.specs.Joins.{append, all_parts, any_parts}
use Rattle.backend_core.specs.Trees.{Plain, Plains, no_parts, a_part, all, any, negated, leaf, never}
use Rattle.sqlite_writer.specs.declared.place.Kind.{Kind}
use Rattle.sqlite_writer.specs.declared.place.Kind.TheVariants.{All, Any}
use Rattle.sqlite_writer.specs.Guarded.{is_unsure, other_of}

-- what a tree adds to a list of this kind: the parts of a list of the same kind, else the tree
abbrev pub parts_of : Kind → Plain → Plains
parts_of All t = all_parts t
parts_of Any t = any_parts t

-- that a field has a value, where a leaf asks for it
abbrev pub guard_of : ℕ → Leaf → Leaf
guard_of k l = record { field = k; test = tests.Has; place = l.place }

-- a leaf behind the guard of its further field, if it looks at one
abbrev pub behind_other : Option ℕ → Leaf → Plains
behind_other None l = a_part (leaf l) no_parts
behind_other (Some other) l = a_part (leaf (guard_of other l)) (a_part (leaf l) no_parts)

abbrev pub guarded_leaf : Bool → Leaf → Plain
guarded_leaf true l = all (a_part (leaf (guard_of l.field l)) (behind_other (other_of l.test) l))
guarded_leaf false l = leaf l

abbrev mutual
  -- below an odd number of words NOT, or an even one
  pub guarded : Bool → Plain → Plain
  guarded odd (all ts) = all (guarded_parts All odd ts)
  guarded odd (any ts) = any (guarded_parts Any odd ts)
  guarded odd (negated t) = negated (guarded (not odd) t)
  guarded odd (leaf l) = guarded_leaf (odd && is_unsure l.test) l
  guarded odd never = never

  pub guarded_parts : Kind → Bool → Plains → Plains
  guarded_parts kind odd no_parts = no_parts
  guarded_parts kind odd (a_part t ts) = append (parts_of kind (guarded odd t)) (guarded_parts kind odd ts)
