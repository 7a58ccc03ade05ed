-- The depth of a query as it's written: that of its expression, which doesn't depend on the columns.
use Rattle.std.specs.Prelude.{ℕ, ◌+◌, max, Option, Some, None}
use Rattle.sql_lang.specs.Grammar.{Leaf, constant, is_null, compares, like, glob, regexp, one_of, between, Ors, last_and, and_or, Ands, last_not, not_and, Nots, not_not, a_test, enclosed}
use Rattle.sql_lang.specs.Expression.{collated_depth}

abbrev pub leaf_depth : Leaf → ℕ
leaf_depth (constant b) = 1
leaf_depth (is_null n b) = 2
leaf_depth (compares n c op x d) = 1 + max (collated_depth c) (collated_depth d)
leaf_depth (like n b p e) = 2
leaf_depth (glob n b p) = 2
leaf_depth (regexp n b p) = 2
leaf_depth (one_of n c b before last) = 1 + collated_depth c
leaf_depth (between n c b low high) = 1 + collated_depth c

-- a part behind what stands before it in its chain, if something does
abbrev pub joined : Option ℕ → ℕ → ℕ
joined None part = part
joined (Some deep) part = 1 + max deep part

-- of a chain behind what stands before it
abbrev mutual
  pub or_depth : Ors → Option ℕ → ℕ
  or_depth (last_and a) deep = joined deep (and_depth a None)
  or_depth (and_or a o) deep = or_depth o (Some (joined deep (and_depth a None)))

  pub and_depth : Ands → Option ℕ → ℕ
  and_depth (last_not n) deep = joined deep (nots_depth n)
  and_depth (not_and n a) deep = and_depth a (Some (joined deep (nots_depth n)))

  pub nots_depth : Nots → ℕ
  nots_depth (not_not n) = 1 + nots_depth n
  nots_depth (a_test t) = leaf_depth t
  nots_depth (enclosed o) = or_depth o None
