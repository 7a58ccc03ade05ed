-- The lists of a tree are as shallow as their chains in halves.
use Rattle.std.proofs.Common.{ℕ, ◌+◌, ◌*◌, ◌^◌, ◌≡◌, ◌≤◌, refl, sym, subst, List}
use Rattle.event_schema.specs.declared.schema.Field.{Field}
use Rattle.sql_lang.specs.Grammar.{Ors, Ands}
use Rattle.sql_lang.specs.Expression.{Expr, or_expr, and_expr, depth}
use Rattle.sql_layout.specs.Trees.{Tree, leaf, all, any, negated, Trees, no_trees, a_tree}
use Rattle.sql_layout.specs.Halves.{or_count, and_count, halved_ors, halved_ands, ors_in_halves, ands_in_halves, ShallowOrs, ShallowAnds}
use Rattle.sql_layout.specs.HalvedTrees.{form, layout}
use Rattle.sqlite_writer.specs.Shallow.{IsShallowAll, IsShallowAny, ListsAreShallow, EachIsShallow}

module _ (fields : List Field) where
  -- a whole tree is as deep as it is in an and
  as_part : (t : Tree) → or_expr fields (layout t) ≡ and_expr fields (halved_ands (form t).in_and)
  unfolding ors_in_halves ands_in_halves
  as_part (leaf l) = refl
  as_part (negated t) = refl
  as_part (any t no_trees) = as_part t
  as_part (any t (a_tree u ts)) = refl
  as_part (all t no_trees) = as_part t
  as_part (all t (a_tree u ts)) = refl

module _ (fields : List Field)
    (ors : (d h : ℕ) (o : Ors) → ShallowOrs fields d o → or_count o ≤ 64 * 2 ^ h → depth (or_expr fields (halved_ors o)) ≤ d + 63 + h)
    (ands : (d h : ℕ) (a : Ands) → ShallowAnds fields d a → and_count a ≤ 64 * 2 ^ h → depth (and_expr fields (halved_ands a)) ≤ d + 63 + h)
  where
    shallow_all : (t : Tree) → IsShallowAll fields t
    shallow_all t = λ d h shallow few. subst (λ (e : Expr). depth e ≤ d + 63 + h) (sym (as_part fields t)) (ands d h (form t).in_and shallow few)

    shallow_any : (t : Tree) → IsShallowAny fields t
    shallow_any t = λ d h shallow few. ors d h (form t).in_or shallow few

    mutual
      pub lists_are_shallow : (t : Tree) → ListsAreShallow fields t
      lists_are_shallow (leaf l) = tt
      lists_are_shallow (all t ts) = (shallow_all (all t ts), lists_are_shallow t, each_is_shallow ts)
      lists_are_shallow (any t ts) = (shallow_any (any t ts), lists_are_shallow t, each_is_shallow ts)
      lists_are_shallow (negated t) = lists_are_shallow t

      each_is_shallow : (ts : Trees) → EachIsShallow fields ts
      each_is_shallow no_trees = tt
      each_is_shallow (a_tree t ts) = (lists_are_shallow t, each_is_shallow ts)
