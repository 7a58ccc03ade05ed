-- A tree's layout is read as it was written, within the limit of its parentheses.
use Rattle.std.proofs.Common.{ℕ, suc, ◌+◌, ◌≡◌, ◌≤◌, ◌<◌, refl, sym, ◌∙◌, ap, Bool, true, false, List, [], ◌∷◌, ◌++◌, codes, length, append_assoc, append-nil, arith, ◌⊎◌, inl, inr}
use Rattle.std.specs.Prelude.{◌||◌, nat_lt, if◌then◌else◌, Option, None, Some, map, drop}
use Rattle.std.specs.List.{list_all}
use Rattle.std.specs.Str.{all_scalars}
use Rattle.std.proofs.Math.Utf8.{scalar}
use Rattle.std.proofs.lemmas.Bool.Decides.{nat_tests}
use Rattle.std.proofs.lemmas.Bool.{and_parts, or_parts}
use Rattle.sig_base.specs.Digits.{is_digit}
use Rattle.event_schema.specs.declared.schema.Field.{Field}
use Rattle.event_schema.specs.declared.schema.Schema.{Schema}
use Rattle.query_tokens.specs.Places.{At, CodeAt}
use Rattle.query_tokens.specs.Tokens.{sorts, places}
use Rattle.lucene_lang.specs.declared.query.Word.{Word}
use Rattle.lucene_lang.specs.declared.query.Word.TheVariants.{And, Or}
use Rattle.lucene_lang.specs.declared.written.Written.{Written}
use Rattle.lucene_lang.specs.declared.written.Written.TheVariants.{Bare, Escaped}
use Rattle.lucene_lang.specs.Tokens.{Sort, Joins, Not, Star, Wild, To, Decimal, Plain, Phrase, Opening, Closing, Opens, Closes, Colon, Unclosed, Token, character, tokens}
use Rattle.lucene_lang.specs.Grammar.{Name, to, decimal, plain, star, wild, exact, End, unbounded, bound, Value, a_term, a_phrase, a_range, Leaf, everything, sought, Group, last, joined, Clause, asked, forbidden, Atom, a_leaf, enclosed, spell_name, spell_term, spell_end, spell_value, spell_leaf, spell_group, spell_clause, spell_atom}
use Rattle.lucene_lang.specs.Query.{group_of}
use Rattle.lucene_lang.specs.Faults.{is_outside, ranged_behind, differs, first_word, group_mixed, clause_mixed, atom_mixed, group_faults, clause_faults, atom_faults}
use Rattle.lucene_lang.specs.Reading.{LuceneReads, ReadsWithin, first_outside, opens_too_far}
use Rattle.lucene_layout.specs.Layout.{written, token_text, HasText, EachHasText, text_value, text_leaf, text_group, text_clause, text_atom}
use Rattle.lucene_layout.specs.Trees.{Tree, leaf, all, any, negated, Trees, no_trees, a_tree, Form, form_of_group, form_of_not, all_forbidden, with_everything, behind_everything, form, some_of, each_of, layout, layout_text, group_depth, clause_depth, atom_depth, colons, group_clauses, clause_clauses, atom_clauses, has_outside, IsSound, EachLeaf, EachOfTrees}
use Rattle.lucene_layout.proofs.Scanned.{DecimalIs, decimal_is, may_begin, group_scanned}

-- ---- groups of sound leaves, each with one word

module _ (fields : List Field) where
  abbrev mutual
    IsGood : Option Word → Group → Type 0
    IsGood v (last c) = GoodClause c
    IsGood v (joined c w g) = GoodClause c × (differs v w ≡ false) × IsGood (Some (first_word v w)) g

    GoodClause : Clause → Type 0
    GoodClause (asked a) = GoodAtom a
    GoodClause (forbidden a) = GoodAtom a

    GoodAtom : Atom → Type 0
    GoodAtom (a_leaf l) = IsSound fields l
    GoodAtom (enclosed g) = IsGood None g

  pub everything_sound : IsSound fields everything
  unfolding has_outside
  everything_sound = record { writable = (tt, (tt, (tt, tt))); inside = refl; faultless = λ ps. refl }

  record GoodForm (f : Form) : Type 0 where
    whole : IsGood None f.whole
    alone : GoodAtom f.alone
    part : GoodClause f.part

  good_group : (g : Group) → IsGood None g → GoodForm (form_of_group g)
  good_group g h = record { whole = h; alone = h; part = h }

  good_not : (a : Atom) → GoodAtom a → GoodForm (form_of_not a)
  good_not a h = let g : IsGood None (behind_everything (last (forbidden a))) = (everything_sound, refl, h) in record { whole = g; alone = g; part = h }

  good_with : (c : Clause) (g : Group) → GoodClause c → IsGood (Some And) g → IsGood None (with_everything (joined c And g))
  good_with c g first more = by (all_forbidden (joined c And g)) where
    by : (b : Bool) → IsGood None (if b then behind_everything (joined c And g) else joined c And g)
    by true = (everything_sound, refl, (first, refl, more))
    by false = (first, refl, more)

  mutual
    good_form : (t : Tree) → EachLeaf (IsSound fields) t → GoodForm (form t)
    good_form (leaf l) s = record { whole = s; alone = s; part = s }
    good_form (negated t) s = good_not (form t).alone (good_form t s).alone
    good_form (any t no_trees) s = good_form t s.0
    good_form (any t (a_tree u ts)) s =
        good_group (joined (asked (form t).alone) Or (some_of (form u) ts)) ((good_form t s.0).alone, refl, good_some u ts (good_form u s.1.0) s.1.1)
    good_form (all t no_trees) s = good_form t s.0
    good_form (all t (a_tree u ts)) s =
        good_group (with_everything (joined (form t).part And (each_of (form u) ts)))
        (good_with (form t).part (each_of (form u) ts) (good_form t s.0).part (good_each u ts (good_form u s.1.0) s.1.1))

    good_some : (t : Tree) (ts : Trees) → GoodForm (form t) → EachOfTrees (IsSound fields) ts → IsGood (Some Or) (some_of (form t) ts)
    good_some t no_trees f s = f.alone
    good_some t (a_tree u ts) f s = (f.alone, refl, good_some u ts (good_form u s.0) s.1)

    good_each : (t : Tree) (ts : Trees) → GoodForm (form t) → EachOfTrees (IsSound fields) ts → IsGood (Some And) (each_of (form t) ts)
    good_each t no_trees f s = f.part
    good_each t (a_tree u ts) f s = (f.part, refl, good_each u ts (good_form u s.0) s.1)

  -- ---- texts

  texts_joined : (ss ts : List Sort) → EachHasText ss → EachHasText ts → EachHasText (ss ++ ts)
  texts_joined [] ts a b = b
  texts_joined (s ∷ ss) ts a b = (a.0, texts_joined ss ts a.1 b)

  mutual
    group_texts : (v : Option Word) (g : Group) → IsGood v g → EachHasText (spell_group g)
    group_texts v (last c) h = clause_texts c h
    group_texts v (joined c w g) h = texts_joined (spell_clause c) (Joins w ∷ spell_group g) (clause_texts c h.0) (tt, group_texts (Some (first_word v w)) g h.2)

    clause_texts : (c : Clause) → GoodClause c → EachHasText (spell_clause c)
    clause_texts (asked a) h = atom_texts a h
    clause_texts (forbidden a) h = (tt, atom_texts a h)

    atom_texts : (a : Atom) → GoodAtom a → EachHasText (spell_atom a)
    atom_texts (a_leaf l) h = h.writable
    atom_texts (enclosed g) h = (tt, texts_joined (spell_group g) (Closing ∷ []) (group_texts None g h) (tt, tt))

  -- ---- nothing is left out of the language

  abbrev Inside : List Sort → Type 0
  Inside ss = (ts : List Sort) → has_outside false (ss ++ ts) ≡ has_outside false ts

  inside_joined : (ss us : List Sort) → Inside ss → Inside us → Inside (ss ++ us)
  inside_joined ss us a b ts = ap (λ (vs : List Sort). has_outside false vs) (append_assoc ss us ts) ∙ (a (us ++ ts) ∙ b ts)

  -- the leaf's tokens end outside brackets
  name_inside : (n : Name) (ts : List Sort) → is_outside false (spell_name n) ≡ false → has_outside false (spell_name n ∷ Colon ∷ ts) ≡ has_outside false ts
  unfolding has_outside
  name_inside to ts h = refl
  name_inside (decimal w) ts h = rw h refl
  name_inside (plain w) ts h = rw h refl

  name_apart : (n : Name) (ts : List Sort) → has_outside false (spell_name n ∷ Colon ∷ ts) ≡ false → (is_outside false (spell_name n) ≡ false) × (has_outside false ts ≡ false)
  unfolding has_outside
  name_apart to ts h = (refl, h)
  name_apart (decimal w) ts h = or_parts _ _ h
  name_apart (plain w) ts h = or_parts _ _ h

  value_inside : (v : Value) → has_outside false (spell_value v) ≡ false → Inside (spell_value v)
  unfolding has_outside
  value_inside (a_term star) h ts = refl
  value_inside (a_term (wild w)) h ts = let a = (or_parts (is_outside false (Wild w)) false h).0 in rw a refl
  value_inside (a_term (exact to)) h ts = refl
  value_inside (a_term (exact (decimal w))) h ts = let a = (or_parts (is_outside false (Decimal w)) false h).0 in rw a refl
  value_inside (a_term (exact (plain w))) h ts = let a = (or_parts (is_outside false (Plain w)) false h).0 in rw a refl
  value_inside (a_phrase w) h ts = let a = (or_parts (is_outside false (Phrase w)) false h).0 in rw a refl
  value_inside (a_range b unbounded unbounded c) h ts = refl
  value_inside (a_range b unbounded (bound w) c) h ts = refl
  value_inside (a_range b (bound v) unbounded c) h ts = refl
  value_inside (a_range b (bound v) (bound w) c) h ts = refl

  leaf_inside : (l : Leaf) → has_outside false (spell_leaf l) ≡ false → Inside (spell_leaf l)
  unfolding has_outside
  leaf_inside everything h ts = refl
  leaf_inside (sought n v) h ts =
      let a = name_apart n (spell_value v) h in
      name_inside n (spell_value v ++ ts) a.0 ∙ value_inside v a.1 ts

  sign_inside : (s : Sort) → ((ts : List Sort) → has_outside false (s ∷ ts) ≡ has_outside false ts) → Inside (s ∷ [])
  sign_inside s h ts = h ts

  mutual
    unfolding has_outside

    group_inside : (v : Option Word) (g : Group) → IsGood v g → Inside (spell_group g)
    group_inside v (last c) h = clause_inside c h
    group_inside v (joined c w g) h = inside_joined (spell_clause c) (Joins w ∷ spell_group g) (clause_inside c h.0) (group_inside (Some (first_word v w)) g h.2)

    clause_inside : (c : Clause) → GoodClause c → Inside (spell_clause c)
    clause_inside (asked a) h = atom_inside a h
    clause_inside (forbidden a) h = atom_inside a h

    atom_inside : (a : Atom) → GoodAtom a → Inside (spell_atom a)
    atom_inside (a_leaf l) h = leaf_inside l h.inside
    atom_inside (enclosed g) h = λ ts. inside_joined (spell_group g) (Closing ∷ []) (group_inside None g h) (λ us. refl) ts

  -- ---- no faults

  none_joined : (xs ys : List CodeAt) → xs ≡ [] → ys ≡ [] → xs ++ ys ≡ []
  none_joined xs ys a b = rw (a, b) refl

  mutual
    group_unmixed : (v : Option Word) (g : Group) (ps : List At) → IsGood v g → group_mixed v g ps ≡ []
    group_unmixed v (last c) ps h = clause_unmixed c ps h
    group_unmixed v (joined c w g) ps h =
        let first = clause_unmixed c ps h.0 in
        let same = h.1 in
        let more = group_unmixed (Some (first_word v w)) g (drop (suc (length (spell_clause c))) ps) h.2 in
        rw (first, same, more) refl

    clause_unmixed : (c : Clause) (ps : List At) → GoodClause c → clause_mixed c ps ≡ []
    clause_unmixed (asked a) ps h = atom_unmixed a ps h
    clause_unmixed (forbidden a) ps h = atom_unmixed a (drop 1 ps) h

    atom_unmixed : (a : Atom) (ps : List At) → GoodAtom a → atom_mixed a ps ≡ []
    atom_unmixed (a_leaf l) ps h = refl
    atom_unmixed (enclosed g) ps h = group_unmixed None g (drop 1 ps) h

  mutual
    group_faultless : (v : Option Word) (g : Group) (ps : List At) → IsGood v g → group_faults fields g ps ≡ []
    group_faultless v (last c) ps h = clause_faultless c ps h
    group_faultless v (joined c w g) ps h =
        let first = clause_faultless c ps h.0 in
        let more = group_faultless (Some (first_word v w)) g (drop (suc (length (spell_clause c))) ps) h.2 in
        rw (first, more) refl

    clause_faultless : (c : Clause) (ps : List At) → GoodClause c → clause_faults fields c ps ≡ []
    clause_faultless (asked a) ps h = atom_faultless a ps h
    clause_faultless (forbidden a) ps h = atom_faultless a (drop 1 ps) h

    atom_faultless : (a : Atom) (ps : List At) → GoodAtom a → atom_faults fields a ps ≡ []
    atom_faultless (a_leaf l) ps h = h.faultless ps
    atom_faultless (enclosed g) ps h = group_faultless None g (drop 1 ps) h

-- ---- parentheses

one_more_test : (m n k : ℕ) → k ≡ suc m → nat_lt k (suc n) ≡ nat_lt m n
one_more_test m n k h = grind (arith, nat_tests)

one_more_each : (limit o c : ℕ) (ts : List Sort) → opens_too_far limit (suc o) (suc c) ts ≡ opens_too_far limit o c ts
unfolding opens_too_far
one_more_each limit o c [] = refl
one_more_each limit o c (Opening ∷ ts) =
    let same : nat_lt (suc c + limit) (suc (suc o)) ≡ nat_lt (c + limit) (suc o) = one_more_test (c + limit) (suc o) (suc c + limit) (omega arith) in
    let more = one_more_each limit (suc o) c ts in
    rw (same, more) refl
one_more_each limit o c (Closing ∷ ts) = one_more_each limit o (suc c) ts
one_more_each limit o c (Joins w ∷ ts) = one_more_each limit o c ts
one_more_each limit o c (Not ∷ ts) = one_more_each limit o c ts
one_more_each limit o c (Star ∷ ts) = one_more_each limit o c ts
one_more_each limit o c (Wild w ∷ ts) = one_more_each limit o c ts
one_more_each limit o c (To ∷ ts) = one_more_each limit o c ts
one_more_each limit o c (Decimal w ∷ ts) = one_more_each limit o c ts
one_more_each limit o c (Plain w ∷ ts) = one_more_each limit o c ts
one_more_each limit o c (Phrase w ∷ ts) = one_more_each limit o c ts
one_more_each limit o c (Opens b ∷ ts) = one_more_each limit o c ts
one_more_each limit o c (Closes b ∷ ts) = one_more_each limit o c ts
one_more_each limit o c (Colon ∷ ts) = one_more_each limit o c ts
one_more_each limit o c (Unclosed ∷ ts) = one_more_each limit o c ts

module _ (limit : ℕ) where
  abbrev Passes : ℕ → ℕ → List Sort → Type 0
  Passes o c ss = (ts : List Sort) → opens_too_far limit o c (ss ++ ts) ≡ opens_too_far limit o c ts

  passes_joined : (o c : ℕ) (ss us : List Sort) → Passes o c ss → Passes o c us → Passes o c (ss ++ us)
  passes_joined o c ss us a b ts = ap (λ (vs : List Sort). opens_too_far limit o c vs) (append_assoc ss us ts) ∙ (a (us ++ ts) ∙ b ts)

  name_passes : (o c : ℕ) (n : Name) (ts : List Sort) → opens_too_far limit o c (spell_name n ∷ ts) ≡ opens_too_far limit o c ts
  unfolding opens_too_far
  name_passes o c to ts = refl
  name_passes o c (decimal w) ts = refl
  name_passes o c (plain w) ts = refl

  end_passes : (o c : ℕ) (e : End) (ts : List Sort) → opens_too_far limit o c (spell_end e ∷ ts) ≡ opens_too_far limit o c ts
  unfolding opens_too_far
  end_passes o c unbounded ts = refl
  end_passes o c (bound w) ts = refl

  value_passes : (o c : ℕ) (v : Value) → Passes o c (spell_value v)
  unfolding opens_too_far
  value_passes o c (a_term star) ts = refl
  value_passes o c (a_term (wild w)) ts = refl
  value_passes o c (a_term (exact n)) ts = name_passes o c n ts
  value_passes o c (a_phrase w) ts = refl
  value_passes o c (a_range b e f d) ts = end_passes o c e (To ∷ spell_end f ∷ Closes d ∷ ts) ∙ end_passes o c f (Closes d ∷ ts)

  leaf_passes : (o c : ℕ) (l : Leaf) → Passes o c (spell_leaf l)
  unfolding opens_too_far
  leaf_passes o c everything ts = refl
  leaf_passes o c (sought n v) ts = name_passes o c n (Colon ∷ (spell_value v ++ ts)) ∙ value_passes o c v ts

  near : (o c d : ℕ) → o + suc d ≤ c + limit → nat_lt (c + limit) (suc o) ≡ false
  near o c d h = grind (arith, nat_tests)

  opening_passes : (o c d : ℕ) (ts : List Sort) → o + suc d ≤ c + limit → opens_too_far limit o c (Opening ∷ ts) ≡ opens_too_far limit (suc o) c ts
  unfolding opens_too_far
  opening_passes o c d ts h = let n = near o c d h in rw n refl

  closing_passes : (o c : ℕ) (ts : List Sort) → opens_too_far limit (suc o) c (Closing ∷ ts) ≡ opens_too_far limit o c ts
  unfolding opens_too_far
  closing_passes o c ts = one_more_each limit o c ts

  mutual
    unfolding opens_too_far

    group_passes : (o c : ℕ) (g : Group) → o + group_depth g ≤ c + limit → Passes o c (spell_group g)
    group_passes o c (last d) h = clause_passes o c d h
    group_passes o c (joined d w g) h =
        passes_joined o c (spell_clause d) (Joins w ∷ spell_group g) (clause_passes o c d (omega arith)) (group_passes o c g (omega arith))

    clause_passes : (o c : ℕ) (d : Clause) → o + clause_depth d ≤ c + limit → Passes o c (spell_clause d)
    clause_passes o c (asked a) h = atom_passes o c a h
    clause_passes o c (forbidden a) h = atom_passes o c a h

    atom_passes : (o c : ℕ) (a : Atom) → o + atom_depth a ≤ c + limit → Passes o c (spell_atom a)
    atom_passes o c (a_leaf l) h = leaf_passes o c l
    atom_passes o c (enclosed g) h = λ ts.
        opening_passes o c (group_depth g) ((spell_group g ++ Closing ∷ []) ++ ts) h
        ∙ (ap (λ (vs : List Sort). opens_too_far limit (suc o) c vs) (append_assoc (spell_group g) (Closing ∷ []) ts)
        ∙ (group_passes (suc o) c g (omega arith) (Closing ∷ ts) ∙ closing_passes o c ts))

  -- and more parentheses than the limit are too far
  abbrev Stops : ℕ → ℕ → List Sort → Type 0
  Stops o c ss = (ts : List Sort) → opens_too_far limit o c (ss ++ ts) ≡ true

  near_or_far : (a b : ℕ) → (b ≤ a) ⊎ (a < b)
  near_or_far a b = by (nat_lt a b) refl where
    by : (so : Bool) → nat_lt a b ≡ so → (b ≤ a) ⊎ (a < b)
    by true is = inr (grind (arith, nat_tests))
    by false is = inl (grind (arith, nat_tests))

  no_room : (o c : ℕ) (ts : List Sort) → c + limit < suc o → opens_too_far limit o c (Opening ∷ ts) ≡ true
  unfolding opens_too_far
  no_room o c ts h = let is = lt_is (c + limit) (suc o) h in rw is refl where
    lt_is : (a b : ℕ) → a < b → nat_lt a b ≡ true
    lt_is a b h = grind (arith, nat_tests)

  mutual
    unfolding opens_too_far

    group_stops : (o c : ℕ) (g : Group) → o ≤ c + limit → c + limit < o + group_depth g → Stops o c (spell_group g)
    group_stops o c (last d) h far = clause_stops o c d h far
    group_stops o c (joined d w g) h far = λ ts.
        ap (λ (vs : List Sort). opens_too_far limit o c vs) (append_assoc (spell_clause d) (Joins w ∷ spell_group g) ts)
        ∙ elim (near_or_far (c + limit) (o + clause_depth d)) [
          | inl less ↦ (clause_passes o c d less (Joins w ∷ (spell_group g ++ ts)) ∙ group_stops o c g h (omega (arith, less, far)) ts)
          | inr more ↦ (clause_stops o c d h more (Joins w ∷ (spell_group g ++ ts)))
        ]

    clause_stops : (o c : ℕ) (d : Clause) → o ≤ c + limit → c + limit < o + clause_depth d → Stops o c (spell_clause d)
    clause_stops o c (asked a) h far = atom_stops o c a h far
    clause_stops o c (forbidden a) h far = atom_stops o c a h far

    atom_stops : (o c : ℕ) (a : Atom) → o ≤ c + limit → c + limit < o + atom_depth a → Stops o c (spell_atom a)
    atom_stops o c (a_leaf l) h far = absurd (omega (arith, h, far))
    atom_stops o c (enclosed g) h far = λ ts. elim (near_or_far (c + limit) (suc o)) [
      | inl less ↦ (
          opening_passes o c 0 ((spell_group g ++ Closing ∷ []) ++ ts) (omega (arith, less))
          ∙ (ap (λ (vs : List Sort). opens_too_far limit (suc o) c vs) (append_assoc (spell_group g) (Closing ∷ []) ts)
          ∙ group_stops (suc o) c g less (omega (arith, far)) (Closing ∷ ts)))
      | inr more ↦ (no_room o c ((spell_group g ++ Closing ∷ []) ++ ts) more)
    ]

  pub too_deep_is_too_far : (g : Group) → limit < group_depth g → opens_too_far limit 0 0 (spell_group g) ≡ true
  too_deep_is_too_far g far = ap (λ (vs : List Sort). opens_too_far limit 0 0 vs) (sym (append-nil (spell_group g))) ∙ group_stops 0 0 g (omega arith) (omega arith) []

-- ---- clauses

colons_joined : (ss ts : List Sort) → colons (ss ++ ts) ≡ colons ss + colons ts
colons_joined [] ts = omega arith
colons_joined (Colon ∷ ss) ts = let h = colons_joined ss ts in omega (arith, h)
colons_joined (Joins w ∷ ss) ts = colons_joined ss ts
colons_joined (Not ∷ ss) ts = colons_joined ss ts
colons_joined (Star ∷ ss) ts = colons_joined ss ts
colons_joined (Wild w ∷ ss) ts = colons_joined ss ts
colons_joined (To ∷ ss) ts = colons_joined ss ts
colons_joined (Decimal w ∷ ss) ts = colons_joined ss ts
colons_joined (Plain w ∷ ss) ts = colons_joined ss ts
colons_joined (Phrase w ∷ ss) ts = colons_joined ss ts
colons_joined (Opening ∷ ss) ts = colons_joined ss ts
colons_joined (Closing ∷ ss) ts = colons_joined ss ts
colons_joined (Opens b ∷ ss) ts = colons_joined ss ts
colons_joined (Closes b ∷ ss) ts = colons_joined ss ts
colons_joined (Unclosed ∷ ss) ts = colons_joined ss ts

name_colons : (n : Name) (ts : List Sort) → colons (spell_name n ∷ ts) ≡ colons ts
name_colons to ts = refl
name_colons (decimal w) ts = refl
name_colons (plain w) ts = refl

end_colons : (e : End) (ts : List Sort) → colons (spell_end e ∷ ts) ≡ colons ts
end_colons unbounded ts = refl
end_colons (bound w) ts = refl

value_colons : (v : Value) → colons (spell_value v) ≡ 0
value_colons (a_term star) = refl
value_colons (a_term (wild w)) = refl
value_colons (a_term (exact n)) = name_colons n []
value_colons (a_phrase w) = refl
value_colons (a_range b e f d) = end_colons e (To ∷ spell_end f ∷ Closes d ∷ []) ∙ end_colons f (Closes d ∷ [])

leaf_colons : (l : Leaf) → colons (spell_leaf l) ≡ 1
leaf_colons everything = refl
leaf_colons (sought n v) = name_colons n (Colon ∷ spell_value v) ∙ ap (λ (n : ℕ). suc n) (value_colons v)

mutual
  pub group_colons : (g : Group) → colons (spell_group g) ≡ group_clauses g
  group_colons (last d) = clause_colons d
  group_colons (joined d w g) =
      let here = clause_colons d in
      let more = group_colons g in
      colons_joined (spell_clause d) (Joins w ∷ spell_group g) ∙ omega (arith, here, more)

  clause_colons : (d : Clause) → colons (spell_clause d) ≡ clause_clauses d
  clause_colons (asked a) = atom_colons a
  clause_colons (forbidden a) = atom_colons a

  atom_colons : (a : Atom) → colons (spell_atom a) ≡ atom_clauses a
  atom_colons (a_leaf l) = leaf_colons l
  atom_colons (enclosed g) =
      let inside = group_colons g in
      colons_joined (spell_group g) (Closing ∷ []) ∙ omega (arith, inside)

-- ---- characters

scalars_joined : (a b : List ℕ) → all_scalars a ≡ true → all_scalars b ≡ true → all_scalars (a ++ b) ≡ true
scalars_joined [] b first second = second
scalars_joined (c ∷ a) b first second =
    let each = and_parts (scalar c) (all_scalars a) first in
    let more = scalars_joined a b each.1 second in
    let here = each.0 in
    rw here more

written_scalars : (w : List Written) → all_scalars (map character w) ≡ true → all_scalars (written w) ≡ true
written_scalars [] h = refl
written_scalars (Bare c ∷ w) h =
    let each = and_parts (scalar c) (all_scalars (map character w)) h in
    let here = each.0 in
    rw here (written_scalars w each.1)
written_scalars (Escaped c ∷ w) h =
    let each = and_parts (scalar c) (all_scalars (map character w)) h in
    let here = each.0 in
    rw here (written_scalars w each.1)

digit_scalar : (c : ℕ) → is_digit c ≡ true → scalar c ≡ true
digit_scalar c h = grind (arith, nat_tests)

digits_scalars : (cs : List ℕ) → list_all is_digit cs ≡ true → all_scalars cs ≡ true
digits_scalars [] h = refl
digits_scalars (c ∷ cs) h =
    let each = and_parts (is_digit c) (list_all is_digit cs) h in
    let here = digit_scalar c each.0 in
    rw here (digits_scalars cs each.1)

begins_scalar : (c : ℕ) → may_begin c ≡ true → scalar c ≡ true
begins_scalar c h = grind (arith, nat_tests)

pub decimal_scalars : (cs : List ℕ) → DecimalIs cs → all_scalars cs ≡ true
decimal_scalars [] d = absurd d
decimal_scalars (c ∷ cs) d = let here = begins_scalar c d.0 in rw here (digits_scalars cs d.1)

token_scalars : (s : Sort) → HasText s → all_scalars (token_text s) ≡ true
token_scalars (Joins And) h = refl
token_scalars (Joins Or) h = refl
token_scalars Not h = refl
token_scalars Star h = refl
token_scalars (Wild w) h = written_scalars w h.scalars
token_scalars To h = refl
token_scalars (Decimal w) h = decimal_scalars w (decimal_is w h)
token_scalars (Plain w) h = written_scalars w h.scalars
token_scalars (Phrase w) h = scalars_joined (written w) (34 ∷ []) (written_scalars w h.1) refl
token_scalars Opening h = refl
token_scalars Closing h = refl
token_scalars (Opens true) h = refl
token_scalars (Opens false) h = refl
token_scalars (Closes true) h = refl
token_scalars (Closes false) h = refl
token_scalars Colon h = refl
token_scalars Unclosed h = absurd h

value_scalars : (v : Value) → EachHasText (spell_value v) → all_scalars (text_value v) ≡ true
value_scalars (a_term t) h = token_scalars (spell_term t) h.0
value_scalars (a_phrase w) h = token_scalars (Phrase w) h.0
value_scalars (a_range b e f c) h =
    let high = token_text (spell_end f) ++ token_text (Closes c) in
    let low = token_text (spell_end e) ++ (codes " TO " ++ high) in
    scalars_joined (token_text (Opens b)) low (token_scalars (Opens b) tt)
    (scalars_joined (token_text (spell_end e)) (codes " TO " ++ high) (token_scalars (spell_end e) h.1.0)
    (scalars_joined (codes " TO ") high refl (scalars_joined (token_text (spell_end f)) (token_text (Closes c)) (token_scalars (spell_end f) h.1.1.1.0) (token_scalars (Closes c) tt))))

leaf_scalars : (l : Leaf) → EachHasText (spell_leaf l) → all_scalars (text_leaf l) ≡ true
leaf_scalars everything h = refl
leaf_scalars (sought n v) h = scalars_joined (token_text (spell_name n)) (codes ":" ++ text_value v) (token_scalars (spell_name n) h.0) (value_scalars v h.1.1)

nothing_outside : has_outside false [] ≡ false
unfolding has_outside
nothing_outside = refl

module _ (fields : List Field) where
  mutual
    group_scalars : (v : Option Word) (g : Group) → IsGood fields v g → all_scalars (text_group g) ≡ true
    group_scalars v (last c) h = clause_scalars c h
    group_scalars v (joined c w g) h =
        scalars_joined (text_clause c) (32 ∷ (token_text (Joins w) ++ 32 ∷ text_group g)) (clause_scalars c h.0) (scalars_joined (token_text (Joins w)) (32 ∷ text_group g) (token_scalars (Joins w) tt) (group_scalars (Some (first_word v w)) g h.2))

    clause_scalars : (c : Clause) → GoodClause fields c → all_scalars (text_clause c) ≡ true
    clause_scalars (asked a) h = atom_scalars a h
    clause_scalars (forbidden a) h = atom_scalars a h

    atom_scalars : (a : Atom) → GoodAtom fields a → all_scalars (text_atom a) ≡ true
    atom_scalars (a_leaf l) h = leaf_scalars l h.writable
    atom_scalars (enclosed g) h = scalars_joined (text_group g) (codes ")") (group_scalars None g h) refl

-- what has no sort that is left out has no token that is
none_outside : (ranged : Bool) (ts : List Token) → has_outside ranged (sorts ts) ≡ false → first_outside ranged ts ≡ None
unfolding has_outside
none_outside ranged [] h = refl
none_outside ranged (t ∷ ts) h = by (is_outside ranged t.sort) refl h (none_outside (ranged_behind ranged t.sort) ts) where
  by : (b : Bool) → is_outside ranged t.sort ≡ b → (b || has_outside (ranged_behind ranged t.sort) (sorts ts)) ≡ false
      → (has_outside (ranged_behind ranged t.sort) (sorts ts) ≡ false → first_outside (ranged_behind ranged t.sort) ts ≡ None)
      → (if b then Some t.place else first_outside (ranged_behind ranged t.sort) ts) ≡ None
  by true is g more = absurd cc
  by false is g more = more g

group_reads : (schema : Schema) (g : Group) → IsGood schema.fields None g → LuceneReads schema (text_group g) (group_of schema.fields g)
group_reads schema g h =
    let texts = group_texts schema.fields None g h in
    let scanned = group_scanned g texts in
    record {
      query = g;
      inside = none_outside false (tokens (text_group g))
          (ap (has_outside false) scanned ∙ (ap (has_outside false) (sym (append-nil (spell_group g))) ∙ (group_inside schema.fields None g h [] ∙ nothing_outside)));
      spelled = sym scanned;
      faultless = none_joined schema.fields _ _ (group_unmixed schema.fields None g (places (tokens (text_group g))) h)
          (group_faultless schema.fields None g (places (tokens (text_group g))) h);
      means = refl;
    }

nothing_opens : (limit : ℕ) → opens_too_far limit 0 0 [] ≡ false
unfolding opens_too_far
nothing_opens limit = refl

pub layout_reads_within : (limit : ℕ) (schema : Schema) (t : Tree) → EachLeaf (IsSound schema.fields) t → group_depth (layout t) ≤ limit
    → ReadsWithin limit schema (layout_text t) (group_of schema.fields (layout t))
layout_reads_within limit schema t s near =
    let g = layout t in
    let good = (good_form schema.fields t s).whole in
    let scanned = group_scanned g (group_texts schema.fields None g good) in
    record {
      reads = group_reads schema g good;
      nests = ap (opens_too_far limit 0 0) scanned ∙ (ap (opens_too_far limit 0 0) (sym (append-nil (spell_group g)))
          ∙ (group_passes limit 0 0 g (omega arith) [] ∙ nothing_opens limit));
    }

pub layout_scalars : (fields : List Field) (t : Tree) → EachLeaf (IsSound fields) t → all_scalars (layout_text t) ≡ true
layout_scalars fields t s = group_scalars fields None (layout t) (good_form fields t s).whole
