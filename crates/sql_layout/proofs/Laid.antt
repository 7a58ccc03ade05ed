-- A tree's layout has no needless parentheses, has the tree's value, and is read as it was written.
use Rattle.std.proofs.Common.{ℕ, zero, suc, ◌+◌, ◌≤◌, ◌<◌, arith, Bool, false, ◌&&◌, ◌≡◌, refl, sym, ◌∙◌, ap, true, List, [], ◌∷◌, ◌++◌, length, drop}
use Rattle.std.specs.Prelude.{Option, encode_utf8_all}
use Rattle.std.specs.List.{list_all}
use Rattle.std.specs.Str.{all_scalars}
use Rattle.std.proofs.lemmas.List.Folds.{list_all-append}
use Rattle.query_tokens.specs.Places.{At}
use Rattle.sql_lang.specs.Tokens.{Sort, Word, OR, AND, Closing}
use Rattle.sql_lang.specs.Grammar.{Leaf, Ors, last_and, and_or, Ands, last_not, not_and, Nots, not_not, a_test, enclosed, spell_or, spell_and, spell_nots}
use Rattle.event_schema.specs.declared.schema.Field.{Field}
use Rattle.event_schema.specs.declared.schema.Schema.{Schema}
use Rattle.event_schema.specs.declared.value.Value.{Value}
use Rattle.sql_lang.specs.Expression.{or_expr}
use Rattle.sql_lang.specs.Faults.{or_faults, and_faults, not_faults, query_faults}
use Rattle.sql_lang.specs.Reading.{Reads}
use Rattle.sql_lang.specs.Meaning.{Truth, both, either, negation, sql_value}
use Rattle.sql_layout.specs.Layout.{has_text, is_writable}
use Rattle.sql_layout.specs.Trees.{Tree, leaf, all, any, negated, Trees, no_trees, a_tree, tree_value, all_trees, any_tree, IsSound, EachLeaf, EachOfTrees}
use Rattle.sql_layout.specs.HalvedTrees.{Form, is_long_or, is_long, form_of_or, form_of_and, form, ors_behind, ands_behind, layout, layout_query, layout_text, fine_or, fine_ors, fine_behind, fine_and, fine_ands, fine_alone, fine_part, fine_after}
use Rattle.sql_layout.specs.Halves.{or_join, and_join, or_count, and_count, first_ors, later_ors, first_ands, later_ands, middle, ors_in_halves, ands_in_halves, halved_ors, halved_ands}
use Rattle.sql_layout.proofs.Joined.{either_no, both_yes, value_or, value_and, value_not, joined_or, joined_and}
use Rattle.sql_layout.proofs.InHalves.{count_some, and_count_some, later_count, later_and_count, halves_value_or, halves_value_and}
use Rattle.std.specs.Prelude.{nat_le}
use Rattle.std.proofs.lemmas.Bool.Decides.{nat_tests}
use Rattle.std.proofs.lemmas.Slice.Eq.{bytes_eq-Decides}
use Rattle.std.proofs.lemmas.Bool.{and_parts}
use Rattle.sig_base.specs.Folding.{folded}
use Rattle.sql_lang.specs.Grammar.{Query}
use Rattle.sql_lang.specs.Names.{is_named}
use Rattle.sql_layout.specs.Layout.{text_query}

-- ---- no needless parentheses

-- each part of an or is fine as its first, and each part of an and as its first
abbrev mutual
  strong_or : Ors → Bool
  strong_or (last_and a) = fine_and a
  strong_or (and_or a o) = fine_and a && strong_or o

  strong_and : Ands → Bool
  strong_and (last_not n) = fine_part n
  strong_and (not_and n a) = fine_part n && strong_and a

record IsFine (f : Form) : Type 0 where
  in_or : strong_or f.in_or ≡ true
  in_and : strong_and f.in_and ≡ true
  in_not : fine_after f.in_not ≡ true

strong_or_join : (o p : Ors) → strong_or o ≡ true → strong_or p ≡ true → strong_or (or_join o p) ≡ true
strong_or_join (last_and a) p first second = rw first second
strong_or_join (and_or a o) p first second =
    let each = and_parts (fine_and a) (strong_or o) first in
    let more = strong_or_join o p each.1 second in
    let here = each.0 in
    rw here more

strong_and_join : (a b : Ands) → strong_and a ≡ true → strong_and b ≡ true → strong_and (and_join a b) ≡ true
strong_and_join (last_not n) b first second = rw first second
strong_and_join (not_and n a) b first second =
    let each = and_parts (fine_part n) (strong_and a) first in
    let more = strong_and_join a b each.1 second in
    let here = each.0 in
    rw here more

pub long_if_or : (o : Ors) → is_long_or o ≡ true → is_long o ≡ true
long_if_or (last_and a) h = absurd cc
long_if_or (and_or a o) h = refl

part_after : (n : Nots) → fine_part n ≡ true → fine_after n ≡ true
part_after (enclosed o) h = let each = and_parts (is_long_or o) (fine_or o) h in let long = long_if_or o each.0 in let fine = each.1 in rw long fine
part_after (not_not n) h = h
part_after (a_test t) h = h

alone_part : (n : Nots) → fine_alone n ≡ true → fine_part n ≡ true
alone_part (enclosed o) h = absurd cc
alone_part (not_not n) h = h
alone_part (a_test t) h = h

and_behind : (a : Ands) → fine_and a ≡ true → fine_behind a ≡ true
and_behind (last_not n) h = alone_part n h
and_behind (not_and n a) h = h

strong_ors : (o : Ors) → strong_or o ≡ true → fine_ors o ≡ true
strong_ors (last_and a) h = and_behind a h
strong_ors (and_or a o) h =
    let each = and_parts (fine_and a) (strong_or o) h in
    let here = and_behind a each.0 in
    let more = strong_ors o each.1 in
    rw here more

strong_fine : (o : Ors) → strong_or o ≡ true → fine_or o ≡ true
strong_fine (last_and a) h = h
strong_fine (and_or a o) h = let each = and_parts (fine_and a) (strong_or o) h in let here = each.0 in let more = strong_ors o each.1 in rw here more

strong_ands : (a : Ands) → strong_and a ≡ true → fine_ands a ≡ true
strong_ands (last_not n) h = part_after n h
strong_ands (not_and n a) h =
    let each = and_parts (fine_part n) (strong_and a) h in
    let here = part_after n each.0 in
    let more = strong_ands a each.1 in
    rw here more

-- as a chain, whose first part may be its last
strong_chain : (a : Ands) → strong_and a ≡ true → fine_behind a ≡ true
strong_chain (last_not n) h = h
strong_chain (not_and n a) h = let each = and_parts (fine_part n) (strong_and a) h in let here = each.0 in let more = strong_ands a each.1 in rw here more

chain_fine : (a : Ands) → fine_behind a ≡ true → is_long (last_and a) ≡ true → fine_and a ≡ true
chain_fine (last_not n) h long = absurd cc
chain_fine (not_and n a) h long = h

-- one part more, behind
ors_and_part : (o : Ors) (b : Ands) → fine_ors o ≡ true → fine_behind b ≡ true → fine_ors (or_join o (last_and b)) ≡ true
ors_and_part (last_and a) b first second = rw first second
ors_and_part (and_or a o) b first second =
    let each = and_parts (fine_behind a) (fine_ors o) first in let here = each.0 in let more = ors_and_part o b each.1 second in rw here more

or_and_part : (o : Ors) (b : Ands) → fine_or o ≡ true → fine_behind b ≡ true → fine_or (or_join o (last_and b)) ≡ true
or_and_part (last_and a) b first second = rw first second
or_and_part (and_or a o) b first second =
    let each = and_parts (fine_and a) (fine_ors o) first in let here = each.0 in let more = ors_and_part o b each.1 second in rw here more

ands_and_part : (a : Ands) (n : Nots) → fine_ands a ≡ true → fine_after n ≡ true → fine_ands (and_join a (last_not n)) ≡ true
ands_and_part (last_not m) n first second = rw first second
ands_and_part (not_and m a) n first second =
    let each = and_parts (fine_after m) (fine_ands a) first in let here = each.0 in let more = ands_and_part a n each.1 second in rw here more

and_and_part : (a : Ands) (n : Nots) → fine_behind a ≡ true → fine_after n ≡ true → fine_behind (and_join a (last_not n)) ≡ true
and_and_part (last_not m) n first second = rw first second
and_and_part (not_and m a) n first second =
    let each = and_parts (fine_part m) (fine_ands a) first in let here = each.0 in let more = ands_and_part a n each.1 second in rw here more

strong_first_ors : (k : ℕ) (o : Ors) → strong_or o ≡ true → strong_or (first_ors k o) ≡ true
strong_first_ors k (last_and a) h = h
strong_first_ors zero (and_or a o) h = (and_parts (fine_and a) (strong_or o) h).0
strong_first_ors (suc k) (and_or a o) h =
    let each = and_parts (fine_and a) (strong_or o) h in let here = each.0 in let more = strong_first_ors k o each.1 in rw here more

strong_later_ors : (k : ℕ) (o : Ors) → strong_or o ≡ true → strong_or (later_ors k o) ≡ true
strong_later_ors k (last_and a) h = h
strong_later_ors zero (and_or a o) h = (and_parts (fine_and a) (strong_or o) h).1
strong_later_ors (suc k) (and_or a o) h = strong_later_ors k o (and_parts (fine_and a) (strong_or o) h).1

strong_first_ands : (k : ℕ) (a : Ands) → strong_and a ≡ true → strong_and (first_ands k a) ≡ true
strong_first_ands k (last_not n) h = h
strong_first_ands zero (not_and n a) h = (and_parts (fine_part n) (strong_and a) h).0
strong_first_ands (suc k) (not_and n a) h =
    let each = and_parts (fine_part n) (strong_and a) h in let here = each.0 in let more = strong_first_ands k a each.1 in rw here more

strong_later_ands : (k : ℕ) (a : Ands) → strong_and a ≡ true → strong_and (later_ands k a) ≡ true
strong_later_ands k (last_not n) h = h
strong_later_ands zero (not_and n a) h = (and_parts (fine_part n) (strong_and a) h).1
strong_later_ands (suc k) (not_and n a) h = strong_later_ands k a (and_parts (fine_part n) (strong_and a) h).1

long_join_or : (o p : Ors) → is_long_or (or_join o p) ≡ true
long_join_or (last_and a) p = refl
long_join_or (and_or a o) p = refl

long_join_and : (a b : Ands) → is_long (last_and (and_join a b)) ≡ true
long_join_and (last_not n) b = refl
long_join_and (not_and n a) b = refl

long_count_or : (o : Ors) → 2 ≤ or_count o → is_long_or o ≡ true
long_count_or (last_and a) h = absurd (omega arith)
long_count_or (and_or a o) h = refl

long_count_and : (a : Ands) → 2 ≤ and_count a → is_long (last_and a) ≡ true
long_count_and (last_not n) h = absurd (omega arith)
long_count_and (not_and n a) h = refl

pub two_later_ors : (o : Ors) → nat_le (or_count o) 64 ≡ false → 2 ≤ or_count (later_ors (middle (or_count o)) o)
two_later_ors o is =
    let more : suc (middle (or_count o)) < or_count o = grind (arith, nat_tests) in
    let left = later_count (middle (or_count o)) o more in
    let few : middle (or_count o) + 3 ≤ or_count o = grind (arith, nat_tests) in
    omega (arith, left, few)

pub two_later_ands : (a : Ands) → nat_le (and_count a) 64 ≡ false → 2 ≤ and_count (later_ands (middle (and_count a)) a)
two_later_ands a is =
    let more : suc (middle (and_count a)) < and_count a = grind (arith, nat_tests) in
    let left = later_and_count (middle (and_count a)) a more in
    let few : middle (and_count a) + 3 ≤ and_count a = grind (arith, nat_tests) in
    omega (arith, left, few)

pub long_halved_or : (n : ℕ) (o : Ors) → 2 ≤ or_count o → is_long_or (ors_in_halves n o) ≡ true
unfolding ors_in_halves
long_halved_or zero o two = long_count_or o two
long_halved_or (suc n) o two = by (nat_le (or_count o) 64) refl where
  by : (b : Bool) → nat_le (or_count o) 64 ≡ b → is_long_or (ors_in_halves (suc n) o) ≡ true
  by true is = rw is (long_count_or o two)
  by false is = rw is (long_join_or (ors_in_halves n (first_ors (middle (or_count o)) o)) (last_and (last_not (enclosed (ors_in_halves n (later_ors (middle (or_count o)) o))))))

pub long_halved_and : (n : ℕ) (a : Ands) → 2 ≤ and_count a → is_long (last_and (ands_in_halves n a)) ≡ true
unfolding ands_in_halves
long_halved_and zero a two = long_count_and a two
long_halved_and (suc n) a two = by (nat_le (and_count a) 64) refl where
  by : (b : Bool) → nat_le (and_count a) 64 ≡ b → is_long (last_and (ands_in_halves (suc n) a)) ≡ true
  by true is = rw is (long_count_and a two)
  by false is = rw is (long_join_and (ands_in_halves n (first_ands (middle (and_count a)) a)) (last_not (enclosed (last_and (ands_in_halves n (later_ands (middle (and_count a)) a))))))

fine_halved_or : (n : ℕ) (o : Ors) → strong_or o ≡ true → fine_or (ors_in_halves n o) ≡ true
unfolding ors_in_halves
fine_halved_or zero o h = strong_fine o h
fine_halved_or (suc n) o h =
    by (nat_le (or_count o) 64) refl (fine_halved_or n (first_ors k o) (strong_first_ors k o h)) (fine_halved_or n (later_ors k o) (strong_later_ors k o h)) where
      k : ℕ
      k = middle (or_count o)

      by : (b : Bool) → nat_le (or_count o) 64 ≡ b → fine_or (ors_in_halves n (first_ors k o)) ≡ true → fine_or (ors_in_halves n (later_ors k o)) ≡ true
          → fine_or (ors_in_halves (suc n) o) ≡ true
      by true is first second = rw is (strong_fine o h)
      by false is first second =
          let long = long_halved_or n (later_ors k o) (two_later_ors o is) in
          let half : fine_behind (last_not (enclosed (ors_in_halves n (later_ors k o)))) ≡ true = rw long second in
          rw is (or_and_part (ors_in_halves n (first_ors k o)) (last_not (enclosed (ors_in_halves n (later_ors k o)))) first half)

fine_halved_and : (n : ℕ) (a : Ands) → strong_and a ≡ true → fine_behind (ands_in_halves n a) ≡ true
unfolding ands_in_halves
fine_halved_and zero a h = strong_chain a h
fine_halved_and (suc n) a h =
    by (nat_le (and_count a) 64) refl (fine_halved_and n (first_ands k a) (strong_first_ands k a h)) (fine_halved_and n (later_ands k a) (strong_later_ands k a h)) where
      k : ℕ
      k = middle (and_count a)

      by : (b : Bool) → nat_le (and_count a) 64 ≡ b → fine_behind (ands_in_halves n (first_ands k a)) ≡ true → fine_behind (ands_in_halves n (later_ands k a)) ≡ true
          → fine_behind (ands_in_halves (suc n) a) ≡ true
      by true is first second = rw is (strong_chain a h)
      by false is first second =
          let long = long_halved_and n (later_ands k a) (two_later_ands a is) in
          let fine = chain_fine (ands_in_halves n (later_ands k a)) second long in
          let half : fine_after (enclosed (last_and (ands_in_halves n (later_ands k a)))) ≡ true = rw long fine in
          rw is (and_and_part (ands_in_halves n (first_ands k a)) (enclosed (last_and (ands_in_halves n (later_ands k a)))) first half)

pub join_count_or : (o p : Ors) → 2 ≤ or_count (or_join o p)
join_count_or (last_and a) p = let h = count_some p in omega (arith, h)
join_count_or (and_or a o) p = let h = count_some (or_join o p) in omega (arith, h)

pub join_count_and : (a b : Ands) → 2 ≤ and_count (and_join a b)
join_count_and (last_not n) b = let h = and_count_some b in omega (arith, h)
join_count_and (not_and n a) b = let h = and_count_some (and_join a b) in omega (arith, h)

-- a join is long
long_or : (o : Ors) → 2 ≤ or_count o → strong_or o ≡ true → IsFine (form_of_or o)
long_or o two strong =
    let long = long_halved_or (or_count o) o two in
    let whole = long_if_or (halved_ors o) long in
    let fine = fine_halved_or (or_count o) o strong in
    record { in_or = strong; in_and = rw long fine; in_not = rw whole fine }

long_and : (a : Ands) → 2 ≤ and_count a → strong_and a ≡ true → IsFine (form_of_and a)
long_and a two strong =
    let long = long_halved_and (and_count a) a two in
    let fine = chain_fine (halved_ands a) (fine_halved_and (and_count a) a strong) long in
    record { in_or = fine; in_and = strong; in_not = rw long fine }

mutual
  fine_form : (t : Tree) → IsFine (form t)
  fine_form (leaf l) = record { in_or = refl; in_and = refl; in_not = refl }
  fine_form (negated t) = let f = (fine_form t).in_not in record { in_or = f; in_and = f; in_not = f }
  fine_form (any t no_trees) = fine_form t
  fine_form (any t (a_tree u ts)) =
      let o = (form t).in_or in
      let p = ors_behind (form u).in_or ts in
      long_or (or_join o p) (join_count_or o p) (strong_or_join o p (fine_form t).in_or (fine_parts_or (form u).in_or ts (fine_form u).in_or))
  fine_form (all t no_trees) = fine_form t
  fine_form (all t (a_tree u ts)) =
      let a = (form t).in_and in
      let b = ands_behind (form u).in_and ts in
      long_and (and_join a b) (join_count_and a b) (strong_and_join a b (fine_form t).in_and (fine_parts_and (form u).in_and ts (fine_form u).in_and))

  fine_parts_or : (o : Ors) (ts : Trees) → strong_or o ≡ true → strong_or (ors_behind o ts) ≡ true
  fine_parts_or o no_trees fine = fine
  fine_parts_or o (a_tree t ts) fine = strong_or_join o (ors_behind (form t).in_or ts) fine (fine_parts_or (form t).in_or ts (fine_form t).in_or)

  fine_parts_and : (a : Ands) (ts : Trees) → strong_and a ≡ true → strong_and (ands_behind a ts) ≡ true
  fine_parts_and a no_trees fine = fine
  fine_parts_and a (a_tree t ts) fine = strong_and_join a (ands_behind (form t).in_and ts) fine (fine_parts_and (form t).in_and ts (fine_form t).in_and)

pub fine_layout : (t : Tree) → fine_or (layout t) ≡ true
fine_layout t = fine_halved_or (or_count (form t).in_or) (form t).in_or (fine_form t).in_or

-- ---- the value

module _ (fields : List Field) (row : List (Option Value)) where
  abbrev Means : Form → Truth → Type 0
  Means f v = (value_or fields row f.in_or ≡ v) × (value_and fields row f.in_and ≡ v) × (value_not fields row f.in_not ≡ v)

  mutual
    form_means : (t : Tree) → Means (form t) (tree_value fields row t)
    form_means (leaf l) = (refl, refl, refl)
    form_means (negated t) = let e = ap negation (form_means t).2 in (e, e, e)
    form_means (any t no_trees) = let m = form_means t in let e = sym (either_no (tree_value fields row t)) in (m.0 ∙ e, m.1 ∙ e, m.2 ∙ e)
    form_means (any t (a_tree u ts)) =
        let p = ors_behind (form u).in_or ts in
        let behind : value_or fields row p ≡ either (tree_value fields row u) (any_tree fields row ts)
        = behind_or (form u).in_or ts ∙ ap (λ (v : Truth). either v (any_tree fields row ts)) (form_means u).0 in
        let e : value_or fields row (or_join (form t).in_or p) ≡ either (tree_value fields row t) (either (tree_value fields row u) (any_tree fields row ts))
        = joined_or fields row (form t).in_or p ∙ (ap (λ (v : Truth). either v (value_or fields row p)) (form_means t).0 ∙ ap (either (tree_value fields row t)) behind) in
        let h = halves_value_or fields row (or_count (or_join (form t).in_or p)) (or_join (form t).in_or p) ∙ e in
        (e, h, h)
    form_means (all t no_trees) = let m = form_means t in let e = sym (both_yes (tree_value fields row t)) in (m.0 ∙ e, m.1 ∙ e, m.2 ∙ e)
    form_means (all t (a_tree u ts)) =
        let b = ands_behind (form u).in_and ts in
        let behind : value_and fields row b ≡ both (tree_value fields row u) (all_trees fields row ts)
        = behind_and (form u).in_and ts ∙ ap (λ (v : Truth). both v (all_trees fields row ts)) (form_means u).1 in
        let e : value_and fields row (and_join (form t).in_and b) ≡ both (tree_value fields row t) (both (tree_value fields row u) (all_trees fields row ts))
        = joined_and fields row (form t).in_and b ∙ (ap (λ (v : Truth). both v (value_and fields row b)) (form_means t).1 ∙ ap (both (tree_value fields row t)) behind) in
        let h = halves_value_and fields row (and_count (and_join (form t).in_and b)) (and_join (form t).in_and b) ∙ e in
        (h, e, h)

    behind_or : (o : Ors) (ts : Trees) → value_or fields row (ors_behind o ts) ≡ either (value_or fields row o) (any_tree fields row ts)
    behind_or o no_trees = sym (either_no (value_or fields row o))
    behind_or o (a_tree t ts) =
        joined_or fields row o (ors_behind (form t).in_or ts)
        ∙ ap (either (value_or fields row o)) (behind_or (form t).in_or ts ∙ ap (λ (v : Truth). either v (any_tree fields row ts)) (form_means t).0)

    behind_and : (a : Ands) (ts : Trees) → value_and fields row (ands_behind a ts) ≡ both (value_and fields row a) (all_trees fields row ts)
    behind_and a no_trees = sym (both_yes (value_and fields row a))
    behind_and a (a_tree t ts) =
        joined_and fields row a (ands_behind (form t).in_and ts)
        ∙ ap (both (value_and fields row a)) (behind_and (form t).in_and ts ∙ ap (λ (v : Truth). both v (all_trees fields row ts)) (form_means t).1)

  pub layout_means : (t : Tree) → sql_value (or_expr fields (layout t)) row ≡ tree_value fields row t
  layout_means t = halves_value_or fields row (or_count (form t).in_or) (form t).in_or ∙ (form_means t).0

-- ---- reading back

module _ (P : Leaf → Type 0) where
  abbrev mutual
    EachOr : Ors → Type 0
    EachOr (last_and a) = EachAnd a
    EachOr (and_or a o) = EachAnd a × EachOr o

    EachAnd : Ands → Type 0
    EachAnd (last_not n) = EachNot n
    EachAnd (not_and n a) = EachNot n × EachAnd a

    EachNot : Nots → Type 0
    EachNot (not_not n) = EachNot n
    EachNot (a_test t) = P t
    EachNot (enclosed o) = EachOr o

  each_or_join : (o p : Ors) → EachOr o → EachOr p → EachOr (or_join o p)
  each_or_join (last_and a) p first second = (first, second)
  each_or_join (and_or a o) p first second = (first.0, each_or_join o p first.1 second)

  each_and_join : (a b : Ands) → EachAnd a → EachAnd b → EachAnd (and_join a b)
  each_and_join (last_not n) b first second = (first, second)
  each_and_join (not_and n a) b first second = (first.0, each_and_join a b first.1 second)

  each_first_ors : (k : ℕ) (o : Ors) → EachOr o → EachOr (first_ors k o)
  each_first_ors k (last_and a) h = h
  each_first_ors zero (and_or a o) h = h.0
  each_first_ors (suc k) (and_or a o) h = (h.0, each_first_ors k o h.1)

  each_later_ors : (k : ℕ) (o : Ors) → EachOr o → EachOr (later_ors k o)
  each_later_ors k (last_and a) h = h
  each_later_ors zero (and_or a o) h = h.1
  each_later_ors (suc k) (and_or a o) h = each_later_ors k o h.1

  each_first_ands : (k : ℕ) (a : Ands) → EachAnd a → EachAnd (first_ands k a)
  each_first_ands k (last_not n) h = h
  each_first_ands zero (not_and n a) h = h.0
  each_first_ands (suc k) (not_and n a) h = (h.0, each_first_ands k a h.1)

  each_later_ands : (k : ℕ) (a : Ands) → EachAnd a → EachAnd (later_ands k a)
  each_later_ands k (last_not n) h = h
  each_later_ands zero (not_and n a) h = h.1
  each_later_ands (suc k) (not_and n a) h = each_later_ands k a h.1

  each_halved_or : (n : ℕ) (o : Ors) → EachOr o → EachOr (ors_in_halves n o)
  unfolding ors_in_halves
  each_halved_or zero o h = h
  each_halved_or (suc n) o h = by (nat_le (or_count o) 64) refl (each_halved_or n (first_ors k o) (each_first_ors k o h)) (each_halved_or n (later_ors k o) (each_later_ors k o h)) where
    k : ℕ
    k = middle (or_count o)

    by : (b : Bool) → nat_le (or_count o) 64 ≡ b → EachOr (ors_in_halves n (first_ors k o)) → EachOr (ors_in_halves n (later_ors k o)) → EachOr (ors_in_halves (suc n) o)
    by true is first second = rw is h
    by false is first second = rw is (each_or_join (ors_in_halves n (first_ors k o)) (last_and (last_not (enclosed (ors_in_halves n (later_ors k o))))) first second)

  each_halved_and : (n : ℕ) (a : Ands) → EachAnd a → EachAnd (ands_in_halves n a)
  unfolding ands_in_halves
  each_halved_and zero a h = h
  each_halved_and (suc n) a h = by (nat_le (and_count a) 64) refl (each_halved_and n (first_ands k a) (each_first_ands k a h)) (each_halved_and n (later_ands k a) (each_later_ands k a h)) where
    k : ℕ
    k = middle (and_count a)

    by : (b : Bool) → nat_le (and_count a) 64 ≡ b → EachAnd (ands_in_halves n (first_ands k a)) → EachAnd (ands_in_halves n (later_ands k a)) → EachAnd (ands_in_halves (suc n) a)
    by true is first second = rw is h
    by false is first second = rw is (each_and_join (ands_in_halves n (first_ands k a)) (last_not (enclosed (last_and (ands_in_halves n (later_ands k a))))) first second)

  abbrev Each : Form → Type 0
  Each f = EachOr f.in_or × EachAnd f.in_and × EachNot f.in_not

  mutual
    each_form : (t : Tree) → EachLeaf P t → Each (form t)
    each_form (leaf l) h = (h, h, h)
    each_form (negated t) h = let e = (each_form t h).2 in (e, e, e)
    each_form (any t no_trees) h = each_form t h.0
    each_form (any t (a_tree u ts)) h =
        let o = or_join (form t).in_or (ors_behind (form u).in_or ts) in
        let e = each_or_join (form t).in_or (ors_behind (form u).in_or ts) (each_form t h.0).0 (each_ors (form u).in_or ts (each_form u h.1.0).0 h.1.1) in
        let g = each_halved_or (or_count o) o e in
        (e, g, g)
    each_form (all t no_trees) h = each_form t h.0
    each_form (all t (a_tree u ts)) h =
        let a = and_join (form t).in_and (ands_behind (form u).in_and ts) in
        let e = each_and_join (form t).in_and (ands_behind (form u).in_and ts) (each_form t h.0).1 (each_ands (form u).in_and ts (each_form u h.1.0).1 h.1.1) in
        let g = each_halved_and (and_count a) a e in
        (g, e, g)

    each_ors : (o : Ors) (ts : Trees) → EachOr o → EachOfTrees P ts → EachOr (ors_behind o ts)
    each_ors o no_trees first more = first
    each_ors o (a_tree t ts) first more =
        each_or_join o (ors_behind (form t).in_or ts) first (each_ors (form t).in_or ts (each_form t more.0).0 more.1)

    each_ands : (a : Ands) (ts : Trees) → EachAnd a → EachOfTrees P ts → EachAnd (ands_behind a ts)
    each_ands a no_trees first more = first
    each_ands a (a_tree t ts) first more =
        each_and_join a (ands_behind (form t).in_and ts) first (each_ands (form t).in_and ts (each_form t more.0).1 more.1)

texts_joined : (ss ts : List Sort) → list_all has_text ss ≡ true → list_all has_text ts ≡ true → list_all has_text (ss ++ ts) ≡ true
texts_joined ss ts first second = list_all-append has_text ss ts ∙ rw first second

module _ (fields : List Field) where
  mutual
    sound_or : (o : Ors) → EachOr (IsSound fields) o → list_all has_text (spell_or o) ≡ true
    sound_or (last_and a) h = sound_and a h
    sound_or (and_or a o) h = texts_joined (spell_and a) (Word OR ∷ spell_or o) (sound_and a h.0) (sound_or o h.1)

    sound_and : (a : Ands) → EachAnd (IsSound fields) a → list_all has_text (spell_and a) ≡ true
    sound_and (last_not n) h = sound_not n h
    sound_and (not_and n a) h = texts_joined (spell_nots n) (Word AND ∷ spell_and a) (sound_not n h.0) (sound_and a h.1)

    sound_not : (n : Nots) → EachNot (IsSound fields) n → list_all has_text (spell_nots n) ≡ true
    sound_not (not_not n) h = sound_not n h
    sound_not (a_test t) h = h.writable
    sound_not (enclosed o) h = texts_joined (spell_or o) (Closing ∷ []) (sound_or o h) refl

  mutual
    faultless_or : (o : Ors) (ps : List At) → EachOr (IsSound fields) o → or_faults fields [] o ps ≡ []
    faultless_or (last_and a) ps h = faultless_and a ps h
    faultless_or (and_or a o) ps h =
        rw (faultless_and a ps h.0) (faultless_or o (drop (suc (length (spell_and a))) ps) h.1)

    faultless_and : (a : Ands) (ps : List At) → EachAnd (IsSound fields) a → and_faults fields [] a ps ≡ []
    faultless_and (last_not n) ps h = faultless_not n ps h
    faultless_and (not_and n a) ps h =
        rw (faultless_not n ps h.0) (faultless_and a (drop (suc (length (spell_nots n))) ps) h.1)

    faultless_not : (n : Nots) (ps : List At) → EachNot (IsSound fields) n → not_faults fields [] n ps ≡ []
    faultless_not (not_not n) ps h = faultless_not n (drop 1 ps) h
    faultless_not (a_test t) ps h = h.faultless ps
    faultless_not (enclosed o) ps h = faultless_or o (drop 1 ps) h

layout_writable : (schema : Schema) (t : Tree) → all_scalars schema.table ≡ true → EachOr (IsSound schema.fields) (layout t)
    → is_writable (layout_query schema.table t) ≡ true
layout_writable schema t table sound =
    let condition = texts_joined (spell_or (layout t)) [] (sound_or schema.fields (layout t) sound) refl in
    rw table condition

named_itself : (n : List ℕ) → is_named n n ≡ true
named_itself n = (bytes_eq-Decides (folded n) (folded n)).1 refl

layout_faultless : (schema : Schema) (t : Tree) (ps : List At) → EachOr (IsSound schema.fields) (layout t)
    → query_faults schema [] (layout_query schema.table t) ps ≡ []
layout_faultless schema t ps sound = rw (named_itself schema.table) (faultless_or schema.fields (layout t) (drop 5 ps) sound)

-- what the text of a query without faults is read as
abbrev pub WrittenIsRead : Type 0
WrittenIsRead =
    (schema : Schema) (q : Query) → is_writable q ≡ true → ((ps : List At) → query_faults schema [] q ps ≡ [])
    → Reads schema (encode_utf8_all (text_query q)) (or_expr schema.fields q.condition)

pub layout_reads : WrittenIsRead → (schema : Schema) (t : Tree) → all_scalars schema.table ≡ true → EachLeaf (IsSound schema.fields) t
    → Reads schema (encode_utf8_all (layout_text schema.table t)) (or_expr schema.fields (layout t))
layout_reads written schema t table sound =
    let each = each_halved_or (IsSound schema.fields) (or_count (form t).in_or) (form t).in_or (each_form (IsSound schema.fields) t sound).0 in
    written schema (layout_query schema.table t) (layout_writable schema t table each) (λ ps. layout_faultless schema t ps each)
