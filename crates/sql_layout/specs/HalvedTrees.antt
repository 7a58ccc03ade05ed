-- Trees of tests, laid out with the least parentheses and with long chains in halves.
use Rattle.std.specs.Prelude.{ℕ, Bool, true, false, ◌&&◌, List}
use Rattle.sql_lang.specs.Grammar.{Ors, last_and, and_or, Ands, last_not, not_and, Nots, not_not, a_test, enclosed, Query}
use Rattle.sql_layout.specs.Layout.{text_query}
use Rattle.sql_layout.specs.Trees.{Tree, leaf, all, any, negated, Trees, no_trees, a_tree}
use Rattle.sql_layout.specs.Halves.{or_join, and_join, halved_ors, halved_ands}

-- how a tree is written as the whole or as a part of an or, as a part of an and, and after NOT
pub record Form : Type 0 where
  pub in_or : Ors
  pub in_and : Ands
  pub in_not : Nots

abbrev pub form_of_not : Nots → Form
form_of_not n = record { in_or = last_and (last_not n); in_and = last_not n; in_not = n }

-- Parentheses stand around an any in an all or after NOT; a chain that goes on no further is written in halves.
abbrev pub form_of_or : Ors → Form
form_of_or o = record { in_or = o; in_and = last_not (enclosed (halved_ors o)); in_not = enclosed (halved_ors o) }

-- and around an all after NOT
abbrev pub form_of_and : Ands → Form
form_of_and a = record { in_or = last_and (halved_ands a); in_and = a; in_not = enclosed (last_and (halved_ands a)) }

-- a list of one part is written as this part
abbrev mutual
  pub form : Tree → Form
  form (leaf l) = form_of_not (a_test l)
  form (negated t) = form_of_not (not_not (form t).in_not)
  form (any t no_trees) = form t
  form (any t (a_tree u ts)) = form_of_or (or_join (form t).in_or (ors_behind (form u).in_or ts))
  form (all t no_trees) = form t
  form (all t (a_tree u ts)) = form_of_and (and_join (form t).in_and (ands_behind (form u).in_and ts))

  pub ors_behind : Ors → Trees → Ors
  ors_behind o no_trees = o
  ors_behind o (a_tree t ts) = or_join o (ors_behind (form t).in_or ts)

  pub ands_behind : Ands → Trees → Ands
  ands_behind a no_trees = a
  ands_behind a (a_tree t ts) = and_join a (ands_behind (form t).in_and ts)

abbrev pub layout : Tree → Ors
layout t = halved_ors (form t).in_or

abbrev pub layout_query : List ℕ → Tree → Query
layout_query table t = record { table = table; condition = layout t; ends = false }

-- SELECT * FROM table WHERE tree
abbrev pub layout_text : List ℕ → Tree → List ℕ
layout_text table t = text_query (layout_query table t)

-- ---- no needless parentheses

abbrev pub is_long_or : Ors → Bool
is_long_or (and_or a o) = true
is_long_or (last_and a) = false

abbrev pub is_long : Ors → Bool
is_long (and_or a o) = true
is_long (last_and (not_and n a)) = true
is_long (last_and (last_not n)) = false

-- Each pair of parentheses holds an or of at least two parts and is a part of an and of at least two; or it holds an or
-- or an and of at least two parts and stands directly after NOT; or it is a half: it holds a chain of at least two parts, and
-- is a part, not the first, of a chain of the same word.
abbrev mutual
  pub fine_or : Ors → Bool
  fine_or (last_and a) = fine_and a
  fine_or (and_or a o) = fine_and a && fine_ors o

  -- behind the first part of an or
  pub fine_ors : Ors → Bool
  fine_ors (last_and a) = fine_behind a
  fine_ors (and_or a o) = fine_behind a && fine_ors o

  pub fine_behind : Ands → Bool
  fine_behind (last_not n) = fine_part n
  fine_behind (not_and n a) = fine_part n && fine_ands a

  -- a pair that is the only part of its and is needless
  pub fine_and : Ands → Bool
  fine_and (last_not n) = fine_alone n
  fine_and (not_and n a) = fine_part n && fine_ands a

  -- behind the first part of an and
  pub fine_ands : Ands → Bool
  fine_ands (last_not n) = fine_after n
  fine_ands (not_and n a) = fine_after n && fine_ands a

  pub fine_alone : Nots → Bool
  fine_alone (enclosed o) = false
  fine_alone (not_not n) = fine_after n
  fine_alone (a_test t) = true

  -- where a pair holds an or
  pub fine_part : Nots → Bool
  fine_part (enclosed o) = is_long_or o && fine_or o
  fine_part (not_not n) = fine_after n
  fine_part (a_test t) = true

  -- where a pair holds an or or an and
  pub fine_after : Nots → Bool
  fine_after (enclosed o) = is_long o && fine_or o
  fine_after (not_not n) = fine_after n
  fine_after (a_test t) = true
