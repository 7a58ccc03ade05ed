-- How deep a query is, as the code reckons it.
use Rattle.std.proofs.Common.{ℕ, zero, suc, ◌≡◌, ◌+◌, ◌<◌, ◌≤◌, List, ◌∷◌, length, drop, map, get_or, refl, sym, ap, ◌∙◌, arith, inl, inr}
use Rattle.std.specs.Prelude.{nat_lt, min, max, Option, Some, None, ◌⊎◌}
use Rattle.std.proofs.lemmas.Bool.{lt-ltb, le-ltb, cases_lt}
use Rattle.std.proofs.lemmas.List.{drop_more}
use Rattle.event_schema.specs.declared.schema.Field.{Field}
use Rattle.sql_lang.specs.Grammar.{Leaf, constant, is_null, compares, like, glob, regexp, one_of, between, Ors, last_and, and_or, Ands, last_not, not_and, Nots, not_not, a_test, enclosed}
use Rattle.sql_lang.specs.Expression.{depth, chain_depth, test_depth, test_of, or_expr, or_exprs, and_expr, and_exprs, not_expr}
use Rattle.sql_lang.specs.Machine.{negated, and_of, or_of}
use Rattle.sql_parse.specs.View.{core_step, ands_step, nots_step, ors_step, nots_view, core_view}
use Rattle.sql_parse.specs.declared.syntax.Nots as syntax
use Rattle.sql_parse.specs.declared.syntax.Core.TheFolds.{fold_out-Nots}
use Rattle.sql_check.specs.Depths.{leaf_depth, joined, or_depth, and_depth, nots_depth}

-- ---- the depth of the expression

module _ (fields : List Field) where
  leaf_same : (t : Leaf) → test_depth (test_of fields t) ≡ leaf_depth t
  leaf_same (constant b) = refl
  leaf_same (is_null n b) = refl
  leaf_same (compares n c op x d) = refl
  leaf_same (like n b v e) = refl
  leaf_same (glob n b v) = refl
  leaf_same (regexp n b v) = refl
  leaf_same (one_of n c b ls l) = refl
  leaf_same (between n c b low high) = refl

  mutual
    pub or_same : (o : Ors) → depth (or_expr fields o) ≡ or_depth o None
    or_same (last_and a) = and_same a
    or_same (and_or a o) = or_rest o (depth (and_expr fields a)) ∙ ap (λ (d : ℕ). or_depth o (Some d)) (and_same a)

    or_rest : (o : Ors) (d : ℕ) → chain_depth (or_exprs fields o) d ≡ or_depth o (Some d)
    or_rest (last_and a) d = ap (λ (p : ℕ). 1 + max d p) (and_same a)
    or_rest (and_or a o) d = or_rest o (1 + max d (depth (and_expr fields a))) ∙ ap (λ (p : ℕ). or_depth o (Some (1 + max d p))) (and_same a)

    and_same : (a : Ands) → depth (and_expr fields a) ≡ and_depth a None
    and_same (last_not n) = not_same n
    and_same (not_and n a) = and_rest a (depth (not_expr fields n)) ∙ ap (λ (d : ℕ). and_depth a (Some d)) (not_same n)

    and_rest : (a : Ands) (d : ℕ) → chain_depth (and_exprs fields a) d ≡ and_depth a (Some d)
    and_rest (last_not n) d = ap (λ (p : ℕ). 1 + max d p) (not_same n)
    and_rest (not_and n a) d = and_rest a (1 + max d (depth (not_expr fields n))) ∙ ap (λ (p : ℕ). and_depth a (Some (1 + max d p))) (not_same n)

    not_same : (n : Nots) → depth (not_expr fields n) ≡ nots_depth n
    not_same (not_not n) = ap (λ (k : ℕ). 1 + k) (not_same n)
    not_same (a_test t) = leaf_same t
    not_same (enclosed o) = or_same o

-- ---- up to a greatest depth

cap_join : (most d e p : ℕ) → min d most ≡ min e most → min (1 + max d p) most ≡ min (1 + max e p) most
cap_join most d e p h = omega (arith, h)

cap_and : (most : ℕ) (a : Ands) (d e : ℕ) → min d most ≡ min e most → min (and_depth a (Some d)) most ≡ min (and_depth a (Some e)) most
cap_and most (last_not n) d e h = cap_join most d e (nots_depth n) h
cap_and most (not_and n a) d e h = cap_and most a (1 + max d (nots_depth n)) (1 + max e (nots_depth n)) (cap_join most d e (nots_depth n) h)

cap_or : (most : ℕ) (o : Ors) (d e : ℕ) → min d most ≡ min e most → min (or_depth o (Some d)) most ≡ min (or_depth o (Some e)) most
cap_or most (last_and a) d e h = cap_join most d e (and_depth a None) h
cap_or most (and_or a o) d e h = cap_or most o (1 + max d (and_depth a None)) (1 + max e (and_depth a None)) (cap_join most d e (and_depth a None) h)

-- a part that is capped, behind what stands before it
join_capped : (most part whole next : ℕ) (deep : Option ℕ) → part ≡ min whole most → next ≡ min (joined deep part) most → next ≡ min (joined deep whole) most
join_capped most part whole next None p n = omega (arith, p, n)
join_capped most part whole next (Some d) p n = omega (arith, p, n)

cap_again : (most next whole : ℕ) → next ≡ min whole most → min next most ≡ min whole most
cap_again most next whole h = omega (arith, h)

pub next_viewed : {A B : Type 0} (f : A → B) (xs : List A) (i : ℕ) (x : A) → i < length xs → x ≡ get_or xs i x → map f (drop i xs) ≡ f x ∷ map f (drop (i + 1) xs)
next_viewed {A} f xs i x h e = ap (map f) (drop_more xs i x h ∙ ap (λ (y : A). y ∷ drop (i + 1) xs) (sym e))

-- a turn over the parts of an AND, and of an OR
pub and_turn : (most part next whole : ℕ) (ns more : List Nots) (x last : Nots) (deep : Option ℕ) → ns ≡ x ∷ more → part ≡ min (nots_depth x) most → next ≡ min (joined deep part) most
    → min (and_depth (and_of ns last) deep) most ≡ whole → min (and_depth (and_of more last) (Some next)) most ≡ whole
and_turn most part next whole ns more x last deep is p n inv =
    cap_and most (and_of more last) next (joined deep (nots_depth x)) (cap_again most next (joined deep (nots_depth x)) (join_capped most part (nots_depth x) next deep p n))
    ∙ (sym (ap (λ (zs : List Nots). min (and_depth (and_of zs last) deep) most) is) ∙ inv)

pub or_turn : (most part next whole : ℕ) (parts more : List Ands) (x last : Ands) (deep : Option ℕ) → parts ≡ x ∷ more → part ≡ min (and_depth x None) most → next ≡ min (joined deep part) most
    → min (or_depth (or_of parts last) deep) most ≡ whole → min (or_depth (or_of more last) (Some next)) most ≡ whole
or_turn most part next whole parts more x last deep is p n inv =
    cap_or most (or_of more last) next (joined deep (and_depth x None)) (cap_again most next (joined deep (and_depth x None)) (join_capped most part (and_depth x None) next deep p n))
    ∙ (sym (ap (λ (zs : List Ands). min (or_depth (or_of zs last) deep) most) is) ∙ inv)

-- ---- rows of NOT

negated_depth : (k : ℕ) (v : Nots) → nots_depth (negated k v) ≡ k + nots_depth v
negated_depth zero v = omega arith
negated_depth (suc k) v = let h = negated_depth k v in omega (arith, h)

view-Nots : (n : syntax.Nots) → nots_view n ≡ negated n.count (core_view n.core)
view-Nots n = fold_out-Nots Nots Ands Nots Ors core_step ands_step nots_step ors_step n

pub nots_deep : (n : syntax.Nots) → nots_depth (nots_view n) ≡ n.count + nots_depth (core_view n.core)
nots_deep n = ap nots_depth (view-Nots n) ∙ negated_depth n.count (core_view n.core)

-- ---- the limit

pub past_limit : (limit result whole : ℕ) → result ≡ min whole (limit + 1) → nat_lt limit result ≡ nat_lt limit whole
past_limit limit result whole h = by (cases_lt limit whole) where
  by : (limit < whole) ⊎ (whole ≤ limit) → nat_lt limit result ≡ nat_lt limit whole
  by (inl l) = lt-ltb limit result (omega (arith, h)) ∙ sym (lt-ltb limit whole l)
  by (inr l) = le-ltb limit result (omega (arith, h)) ∙ sym (le-ltb limit whole l)
