-- A layout nests no further than its expression is deep: parentheses hold chains, halves too, and each NOT adds a level.
use Rattle.std.proofs.Common.{ℕ, zero, suc, ◌+◌, ◌≡◌, ◌≤◌, ◌<◌, ◌-◌, refl, ◌∙◌, ap, Bool, true, false, ◌||◌, List, [], ◌∷◌, ◌++◌, append_assoc, arith, max}
use Rattle.std.specs.Prelude.{nat_lt, nat_le}
use Rattle.std.specs.List.{list_all}
use Rattle.std.proofs.lemmas.Bool.Decides.{nat_tests, same_from_decides, Decides-like, Decides-ltb}
use Rattle.std.proofs.lemmas.List.Folds.{list_all-append}
use Rattle.event_schema.specs.declared.schema.Field.{Field}
use Rattle.sql_lang.specs.Tokens.{Sort, Word, Opening, Closing, OR, AND, NOT}
use Rattle.sql_lang.specs.Grammar.{Leaf, Ors, last_and, and_or, Ands, last_not, not_and, Nots, not_not, a_test, enclosed, spell_or, spell_and, spell_nots, spell_test}
use Rattle.sql_lang.specs.Expression.{Exprs, no_exprs, an_expr, or_expr, or_exprs, and_expr, and_exprs, not_expr, depth, chain_depth}
use Rattle.sql_layout.specs.Layout.{has_text}
use Rattle.sql_lang.specs.Reading.{opens_too_far, nots_too_many}
use Rattle.sql_layout.specs.Trees.{Tree, leaf, all, any, negated, Trees, no_trees, a_tree, EachLeaf, EachOfTrees}
use Rattle.sql_layout.specs.Halves.{or_join, and_join, or_count, and_count, first_ors, later_ors, first_ands, later_ands, middle, ors_in_halves, ands_in_halves, halved_ors}
use Rattle.sql_layout.specs.HalvedTrees.{Form, is_long, form, form_of_or, form_of_and, ors_behind, ands_behind, layout}
use Rattle.sql_layout.proofs.Laid.{long_if_or, long_halved_or, long_halved_and, two_later_ors, two_later_ands, join_count_or, join_count_and}

pub not_below : (a b : ℕ) → b ≤ a → nat_lt a b ≡ false
not_below a b h = grind (arith, nat_tests)

shift_test : (a b c : ℕ) → nat_lt (suc a + b) (suc c) ≡ nat_lt (a + b) c
shift_test a b c = same_from_decides (nat_lt (suc a + b) (suc c)) (nat_lt (a + b) c)
    (Decides-like (nat_lt (suc a + b) (suc c)) (λ (h : suc a + b < suc c). omega (arith, h)) (λ (h : a + b < c). omega (arith, h)) (Decides-ltb (suc a + b) (suc c)))
    (Decides-ltb (a + b) c)

-- one more opened and one more closed is no change
pub shifted : (limit opened closed : ℕ) (ts : List Sort) → opens_too_far limit (suc opened) (suc closed) ts ≡ opens_too_far limit opened closed ts
unfolding opens_too_far
shifted limit opened closed [] = refl
shifted limit opened closed (Opening ∷ ts) =
    let h = shift_test closed limit (suc opened) in
    rw h (ap (λ (b : Bool). nat_lt (closed + limit) (suc opened) || b) (shifted limit (suc opened) closed ts))
shifted limit opened closed (Closing ∷ ts) = shifted limit opened (suc closed) ts
shifted limit opened closed (t ∷ ts) = shifted limit opened closed ts

-- a test changes neither count
pub record IsCalm (limit : ℕ) (t : Leaf) : Type 0 where
  pub opens : (opened closed : ℕ) (rest : List Sort) → opens_too_far limit opened closed (spell_test t ++ rest) ≡ opens_too_far limit opened closed rest
  pub nots : (n : ℕ) (rest : List Sort) → nots_too_many limit n (spell_test t ++ rest) ≡ nots_too_many limit 0 rest
  pub texts : list_all has_text (spell_test t) ≡ true

module _ (limit : ℕ) (fields : List Field) where
  -- parentheses hold chains, and tests are calm
  abbrev mutual
    pub GoodOr : Ors → Type 0
    GoodOr (last_and a) = GoodAnd a
    GoodOr (and_or a o) = GoodAnd a × GoodOr o

    pub GoodAnd : Ands → Type 0
    GoodAnd (last_not n) = GoodNot n
    GoodAnd (not_and n a) = GoodNot n × GoodAnd a

    pub GoodNot : Nots → Type 0
    GoodNot (not_not n) = GoodNot n
    GoodNot (a_test t) = IsCalm limit t
    GoodNot (enclosed o) = (is_long o ≡ true) × GoodOr o

  good_or_join : (o p : Ors) → GoodOr o → GoodOr p → GoodOr (or_join o p)
  good_or_join (last_and a) p first second = (first, second)
  good_or_join (and_or a o) p first second = (first.0, good_or_join o p first.1 second)

  good_and_join : (a b : Ands) → GoodAnd a → GoodAnd b → GoodAnd (and_join a b)
  good_and_join (last_not n) b first second = (first, second)
  good_and_join (not_and n a) b first second = (first.0, good_and_join a b first.1 second)

  -- ---- halves

  good_first_ors : (k : ℕ) (o : Ors) → GoodOr o → GoodOr (first_ors k o)
  good_first_ors k (last_and a) h = h
  good_first_ors zero (and_or a o) h = h.0
  good_first_ors (suc k) (and_or a o) h = (h.0, good_first_ors k o h.1)

  good_later_ors : (k : ℕ) (o : Ors) → GoodOr o → GoodOr (later_ors k o)
  good_later_ors k (last_and a) h = h
  good_later_ors zero (and_or a o) h = h.1
  good_later_ors (suc k) (and_or a o) h = good_later_ors k o h.1

  good_first_ands : (k : ℕ) (a : Ands) → GoodAnd a → GoodAnd (first_ands k a)
  good_first_ands k (last_not n) h = h
  good_first_ands zero (not_and n a) h = h.0
  good_first_ands (suc k) (not_and n a) h = (h.0, good_first_ands k a h.1)

  good_later_ands : (k : ℕ) (a : Ands) → GoodAnd a → GoodAnd (later_ands k a)
  good_later_ands k (last_not n) h = h
  good_later_ands zero (not_and n a) h = h.1
  good_later_ands (suc k) (not_and n a) h = good_later_ands k a h.1

  good_halved_or : (n : ℕ) (o : Ors) → GoodOr o → GoodOr (ors_in_halves n o)
  unfolding ors_in_halves
  good_halved_or zero o h = h
  good_halved_or (suc n) o h =
      by (nat_le (or_count o) 64) refl (good_halved_or n (first_ors k o) (good_first_ors k o h)) (good_halved_or n (later_ors k o) (good_later_ors k o h)) where
        k : ℕ
        k = middle (or_count o)

        by : (b : Bool) → nat_le (or_count o) 64 ≡ b → GoodOr (ors_in_halves n (first_ors k o)) → GoodOr (ors_in_halves n (later_ors k o)) → GoodOr (ors_in_halves (suc n) o)
        by true is first second = rw is h
        by false is first second =
            let long = long_if_or (ors_in_halves n (later_ors k o)) (long_halved_or n (later_ors k o) (two_later_ors o is)) in
            rw is (good_or_join (ors_in_halves n (first_ors k o)) (last_and (last_not (enclosed (ors_in_halves n (later_ors k o))))) first (long, second))

  good_halved_and : (n : ℕ) (a : Ands) → GoodAnd a → GoodAnd (ands_in_halves n a)
  unfolding ands_in_halves
  good_halved_and zero a h = h
  good_halved_and (suc n) a h =
      by (nat_le (and_count a) 64) refl (good_halved_and n (first_ands k a) (good_first_ands k a h)) (good_halved_and n (later_ands k a) (good_later_ands k a h)) where
        k : ℕ
        k = middle (and_count a)

        by : (b : Bool) → nat_le (and_count a) 64 ≡ b → GoodAnd (ands_in_halves n (first_ands k a)) → GoodAnd (ands_in_halves n (later_ands k a)) → GoodAnd (ands_in_halves (suc n) a)
        by true is first second = rw is h
        by false is first second =
            let long = long_halved_and n (later_ands k a) (two_later_ands a is) in
            rw is (good_and_join (ands_in_halves n (first_ands k a)) (last_not (enclosed (last_and (ands_in_halves n (later_ands k a))))) first (long, second))

  -- ---- trees

  abbrev Good : Form → Type 0
  Good f = GoodOr f.in_or × GoodAnd f.in_and × GoodNot f.in_not

  good_any : (o : Ors) → 2 ≤ or_count o → GoodOr o → Good (form_of_or o)
  good_any o two h =
      let long = long_if_or (halved_ors o) (long_halved_or (or_count o) o two) in
      let halves = good_halved_or (or_count o) o h in
      (h, (long, halves), (long, halves))

  good_all : (a : Ands) → 2 ≤ and_count a → GoodAnd a → Good (form_of_and a)
  good_all a two h =
      let halves = good_halved_and (and_count a) a h in
      (halves, h, (long_halved_and (and_count a) a two, halves))

  mutual
    good_form : (t : Tree) → EachLeaf (IsCalm limit) t → Good (form t)
    good_form (leaf l) h = (h, h, h)
    good_form (negated t) h = let e = (good_form t h).2 in (e, e, e)
    good_form (any t no_trees) h = good_form t h.0
    good_form (any t (a_tree u ts)) h =
        let p = ors_behind (form u).in_or ts in
        let e = good_or_join (form t).in_or p (good_form t h.0).0 (good_ors (form u).in_or ts (good_form u h.1.0).0 h.1.1) in
        good_any (or_join (form t).in_or p) (join_count_or (form t).in_or p) e
    good_form (all t no_trees) h = good_form t h.0
    good_form (all t (a_tree u ts)) h =
        let b = ands_behind (form u).in_and ts in
        let e = good_and_join (form t).in_and b (good_form t h.0).1 (good_ands (form u).in_and ts (good_form u h.1.0).1 h.1.1) in
        good_all (and_join (form t).in_and b) (join_count_and (form t).in_and b) e

    good_ors : (o : Ors) (ts : Trees) → GoodOr o → EachOfTrees (IsCalm limit) ts → GoodOr (ors_behind o ts)
    good_ors o no_trees first more = first
    good_ors o (a_tree t ts) first more =
        good_or_join o (ors_behind (form t).in_or ts) first (good_ors (form t).in_or ts (good_form t more.0).0 more.1)

    good_ands : (a : Ands) (ts : Trees) → GoodAnd a → EachOfTrees (IsCalm limit) ts → GoodAnd (ands_behind a ts)
    good_ands a no_trees first more = first
    good_ands a (a_tree t ts) first more =
        good_and_join a (ands_behind (form t).in_and ts) first (good_ands (form t).in_and ts (good_form t more.0).1 more.1)

  pub good_layout : (t : Tree) → EachLeaf (IsCalm limit) t → GoodOr (layout t)
  good_layout t h = good_halved_or (or_count (form t).in_or) (form t).in_or (good_form t h).0

  -- ---- each token has a text

  texts_joined : (ss ts : List Sort) → list_all has_text ss ≡ true → list_all has_text ts ≡ true → list_all has_text (ss ++ ts) ≡ true
  texts_joined ss ts first second = list_all-append has_text ss ts ∙ rw first second

  mutual
    pub or_texts : (o : Ors) → GoodOr o → list_all has_text (spell_or o) ≡ true
    or_texts (last_and a) h = and_texts a h
    or_texts (and_or a o) h = texts_joined (spell_and a) (Word OR ∷ spell_or o) (and_texts a h.0) (or_texts o h.1)

    and_texts : (a : Ands) → GoodAnd a → list_all has_text (spell_and a) ≡ true
    and_texts (last_not n) h = not_texts n h
    and_texts (not_and n a) h = texts_joined (spell_nots n) (Word AND ∷ spell_and a) (not_texts n h.0) (and_texts a h.1)

    not_texts : (n : Nots) → GoodNot n → list_all has_text (spell_nots n) ≡ true
    not_texts (not_not n) h = not_texts n h
    not_texts (a_test t) h = h.texts
    not_texts (enclosed o) h = texts_joined (spell_or o) (Closing ∷ []) (or_texts o h.1) refl

  -- ---- parts are no deeper than their chain

  abbrev mutual
    pub UnderOr : ℕ → Ors → Type 0
    UnderOr m (last_and a) = UnderAnd m a
    UnderOr m (and_or a o) = UnderAnd m a × UnderOr m o

    pub UnderAnd : ℕ → Ands → Type 0
    UnderAnd m (last_not n) = depth (not_expr fields n) ≤ m
    UnderAnd m (not_and n a) = (depth (not_expr fields n) ≤ m) × UnderAnd m a

  chain_above : (es : Exprs) (d : ℕ) → d ≤ chain_depth es d
  chain_above no_exprs d = omega arith
  chain_above (an_expr e es) d = let h = chain_above es (1 + max d (depth e)) in omega (arith, h)

  -- what stands in a chain of more than one
  and_chain_under : (a : Ands) (d m : ℕ) → chain_depth (and_exprs fields a) d ≤ suc m → UnderAnd m a
  and_chain_under (last_not n) d m h = omega (arith, h)
  and_chain_under (not_and n a) d m h =
      let e = depth (not_expr fields n) in
      let above : 1 + max d e ≤ chain_depth (and_exprs fields a) (1 + max d e) = chain_above (and_exprs fields a) (1 + max d e) in
      (omega (arith, h, above), and_chain_under a (1 + max d e) m h)

  and_under : (a : Ands) (m : ℕ) → depth (and_expr fields a) ≤ m → UnderAnd m a
  and_under (last_not n) m h = h
  and_under (not_and n a) m h =
      let d = depth (not_expr fields n) in
      let above : d ≤ chain_depth (and_exprs fields a) d = chain_above (and_exprs fields a) d in
      (omega (arith, h, above), and_chain_under a d m (omega (arith, h)))

  or_chain_under : (o : Ors) (d m : ℕ) → chain_depth (or_exprs fields o) d ≤ suc m → UnderOr m o
  or_chain_under (last_and a) d m h = and_under a m (omega (arith, h))
  or_chain_under (and_or a o) d m h =
      let e = depth (and_expr fields a) in
      let above : 1 + max d e ≤ chain_depth (or_exprs fields o) (1 + max d e) = chain_above (or_exprs fields o) (1 + max d e) in
      (and_under a m (omega (arith, h, above)), or_chain_under o (1 + max d e) m h)

  or_under : (o : Ors) (m : ℕ) → depth (or_expr fields o) ≤ m → UnderOr m o
  or_under (last_and a) m h = and_under a m h
  or_under (and_or a o) m h =
      let d = depth (and_expr fields a) in
      let above : d ≤ chain_depth (or_exprs fields o) d = chain_above (or_exprs fields o) d in
      (and_under a m (omega (arith, h, above)), or_chain_under o d m (omega (arith, h)))

  -- a chain is deeper than what stands at its front
  and_deeper : (a : Ands) (d : ℕ) → suc d ≤ chain_depth (and_exprs fields a) d
  and_deeper (last_not n) d = omega arith
  and_deeper (not_and n a) d =
      let above = chain_above (and_exprs fields a) (1 + max d (depth (not_expr fields n))) in omega (arith, above)

  or_deeper : (o : Ors) (d : ℕ) → suc d ≤ chain_depth (or_exprs fields o) d
  or_deeper (last_and a) d = omega arith
  or_deeper (and_or a o) d =
      let above = chain_above (or_exprs fields o) (1 + max d (depth (and_expr fields a))) in omega (arith, above)

  long_under : (o : Ors) (m : ℕ) → is_long o ≡ true → depth (or_expr fields o) ≤ suc m → UnderOr m o
  long_under (last_and (last_not n)) m long h = absurd cc
  long_under (last_and (not_and n a)) m long h =
      let d = depth (not_expr fields n) in
      let deeper : suc d ≤ chain_depth (and_exprs fields a) d = and_deeper a d in
      (omega (arith, h, deeper), and_chain_under a d m h)
  long_under (and_or a o) m long h =
      let d = depth (and_expr fields a) in
      let deeper : suc d ≤ chain_depth (or_exprs fields o) d = or_deeper o d in
      (and_under a m (omega (arith, h, deeper)), or_chain_under o d m h)

  long_deep : (o : Ors) → is_long o ≡ true → 1 ≤ depth (or_expr fields o)
  long_deep (last_and (last_not n)) long = absurd cc
  long_deep (last_and (not_and n a)) long = let h = and_deeper a (depth (not_expr fields n)) in omega (arith, h)
  long_deep (and_or a o) long = let h = or_deeper o (depth (and_expr fields a)) in omega (arith, h)

  -- ---- what nests no further than the limit changes neither count

  pub record Passes (opened closed n : ℕ) (ss rest : List Sort) : Type 0 where
    pub opens : opens_too_far limit opened closed (ss ++ rest) ≡ opens_too_far limit opened closed rest
    pub nots : nots_too_many limit n (ss ++ rest) ≡ nots_too_many limit 0 rest

  or_between : (opened closed n : ℕ) (ss ts rest : List Sort) → Passes opened closed n ss (Word OR ∷ (ts ++ rest)) → Passes opened closed 0 ts rest
      → Passes opened closed n (ss ++ Word OR ∷ ts) rest
  unfolding opens_too_far nots_too_many
  or_between opened closed n ss ts rest first second = record {
    opens = ap (opens_too_far limit opened closed) (append_assoc ss (Word OR ∷ ts) rest) ∙ (first.opens ∙ second.opens);
    nots = ap (nots_too_many limit n) (append_assoc ss (Word OR ∷ ts) rest) ∙ (first.nots ∙ second.nots);
  }

  and_between : (opened closed n : ℕ) (ss ts rest : List Sort) → Passes opened closed n ss (Word AND ∷ (ts ++ rest)) → Passes opened closed 0 ts rest
      → Passes opened closed n (ss ++ Word AND ∷ ts) rest
  unfolding opens_too_far nots_too_many
  and_between opened closed n ss ts rest first second = record {
    opens = ap (opens_too_far limit opened closed) (append_assoc ss (Word AND ∷ ts) rest) ∙ (first.opens ∙ second.opens);
    nots = ap (nots_too_many limit n) (append_assoc ss (Word AND ∷ ts) rest) ∙ (first.nots ∙ second.nots);
  }

  behind_not : (opened closed n : ℕ) (ss rest : List Sort) → suc n ≤ limit → Passes opened closed (suc n) ss rest
      → Passes opened closed n (Word NOT ∷ ss) rest
  unfolding opens_too_far nots_too_many
  behind_not opened closed n ss rest few inner =
      let no = not_below limit (suc n) few in record { opens = inner.opens; nots = rw no inner.nots }

  in_parentheses : (opened closed n : ℕ) (ss rest : List Sort) → suc opened ≤ closed + limit → Passes (suc opened) closed 0 ss (Closing ∷ rest)
      → Passes opened closed n (Opening ∷ (ss ++ Closing ∷ [])) rest
  unfolding opens_too_far nots_too_many
  in_parentheses opened closed n ss rest few inner =
      let no = not_below (closed + limit) (suc opened) few in
      let opens : opens_too_far limit (suc opened) closed ((ss ++ Closing ∷ []) ++ rest) ≡ opens_too_far limit opened closed rest
      = ap (opens_too_far limit (suc opened) closed) (append_assoc ss (Closing ∷ []) rest) ∙ (inner.opens ∙ shifted limit opened closed rest) in
      record {
        opens = rw no opens;
        nots = ap (nots_too_many limit 0) (append_assoc ss (Closing ∷ []) rest) ∙ inner.nots;
      }

  mutual
    pub or_passes : (o : Ors) (m opened closed n : ℕ) (rest : List Sort) → GoodOr o → UnderOr m o → opened + m ≤ closed + limit → n + m ≤ limit
        → Passes opened closed n (spell_or o) rest
    or_passes (last_and a) m opened closed n rest g u fits few = and_passes a m opened closed n rest g u fits few
    or_passes (and_or a o) m opened closed n rest g u fits few =
        or_between opened closed n (spell_and a) (spell_or o) rest
        (and_passes a m opened closed n (Word OR ∷ (spell_or o ++ rest)) g.0 u.0 fits few)
        (or_passes o m opened closed 0 rest g.1 u.1 fits (omega (arith, few)))

    and_passes : (a : Ands) (m opened closed n : ℕ) (rest : List Sort) → GoodAnd a → UnderAnd m a → opened + m ≤ closed + limit → n + m ≤ limit
        → Passes opened closed n (spell_and a) rest
    and_passes (last_not x) m opened closed n rest g u fits few =
        not_passes x opened closed n rest g (omega (arith, u, fits)) (omega (arith, u, few))
    and_passes (not_and x a) m opened closed n rest g u fits few =
        let here = u.0 in
        and_between opened closed n (spell_nots x) (spell_and a) rest
        (not_passes x opened closed n (Word AND ∷ (spell_and a ++ rest)) g.0 (omega (arith, here, fits)) (omega (arith, here, few)))
        (and_passes a m opened closed 0 rest g.1 u.1 fits (omega (arith, few)))

    not_passes : (x : Nots) (opened closed n : ℕ) (rest : List Sort) → GoodNot x → opened + depth (not_expr fields x) ≤ closed + limit
        → n + depth (not_expr fields x) ≤ limit → Passes opened closed n (spell_nots x) rest
    not_passes (not_not x) opened closed n rest g fits few =
        behind_not opened closed n (spell_nots x) rest (omega (arith, few))
        (not_passes x opened closed (suc n) rest g (omega (arith, fits)) (omega (arith, few)))
    not_passes (a_test t) opened closed n rest g fits few = record { opens = g.opens opened closed rest; nots = g.nots n rest }
    not_passes (enclosed o) opened closed n rest g fits few =
        let d = depth (or_expr fields o) in
        let deep : 1 ≤ d = long_deep o g.0 in
        in_parentheses opened closed n (spell_or o) rest (omega (arith, fits, deep))
        (or_passes o (d - 1) (suc opened) closed 0 (Closing ∷ rest) g.1 (long_under o (d - 1) g.0 (omega (arith, deep))) (omega (arith, fits, deep)) (omega (arith, few, deep)))

  pub or_opens : (o : Ors) → GoodOr o → depth (or_expr fields o) ≤ limit → opens_too_far limit 0 0 (spell_or o ++ []) ≡ false
  unfolding opens_too_far
  or_opens o good deep = (or_passes o (depth (or_expr fields o)) 0 0 0 [] good (or_under o (depth (or_expr fields o)) (omega arith)) (omega (arith, deep)) (omega (arith, deep))).opens

  pub or_nots : (o : Ors) → GoodOr o → depth (or_expr fields o) ≤ limit → nots_too_many limit 0 (spell_or o ++ []) ≡ false
  unfolding nots_too_many
  or_nots o good deep = (or_passes o (depth (or_expr fields o)) 0 0 0 [] good (or_under o (depth (or_expr fields o)) (omega arith)) (omega (arith, deep)) (omega (arith, deep))).nots
