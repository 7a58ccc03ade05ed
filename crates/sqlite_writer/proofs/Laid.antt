-- What is reckoned of a layout piece by piece is reckoned of the tree with its guards and its joined lists part by part.
use Rattle.std.proofs.Common.{ℕ, ◌≡◌, sym, ◌∙◌, ap, Bool, true, false, not, List, [], ◌∷◌, ◌++◌, map, length, arith}
use Rattle.std.specs.Prelude.{Option, Some, None}
use Rattle.std.proofs.lemmas.List.{map-append}
use Rattle.event_schema.specs.declared.schema.Field.{Field}
use Rattle.sql_lang.specs.Grammar.{Ors, last_and, and_or, Ands, last_not, Nots, not_not, a_test, enclosed, constant}
use Rattle.sql_layout.specs.Halves.{or_join, and_join, halved_ors, halved_ands}
use Rattle.sql_layout.specs.HalvedTrees.{Form, form, form_of_not, form_of_or, form_of_and, ors_behind, ands_behind}
use Rattle.sql_layout.proofs.Chains.{or_parts, and_parts, or_parts_joined, and_parts_joined}
use Rattle.backend_core.specs.declared.tree.Leaf.{Leaf}
use Rattle.backend_core.specs.Trees.{Plain, Plains, no_parts, a_part, all, any, negated, leaf, never}
use Rattle.backend_core.specs.FieldAt.{kind_at, name_at}
use Rattle.backend_core.specs.Sound.{IsSound, AreSound}
use Rattle.sqlite_writer.specs.declared.place.Kind.TheVariants.{All, Any}
use Rattle.sqlite_writer.specs.declared.place.Standing.{Standing}
use Rattle.sqlite_writer.specs.declared.place.Standing.TheVariants.{InOr, InAnd, BehindNot}
use Rattle.sql_layout.specs.Leaves.{has_value}
use Rattle.sql_layout.specs.Trees as sql
use Rattle.sqlite_writer.specs.Guarded.{written_test, is_unsure, other_of, behind_other, guarded_test, sql_tree, sql_trees}
use Rattle.backend_core.specs.Joins.{append}
use Rattle.sqlite_writer.specs.Joined.{parts_of, guard_of, guarded_leaf, guarded, guarded_parts}
use Rattle.sqlite_writer.specs.Joined.{behind_other as parts_behind}
use Rattle.sqlite_writer.proofs.Guards.{append_none}

module _ (fields : List Field) where
  abbrev pub test_of_leaf : Leaf → Nots
  test_of_leaf l = a_test (written_test fields (kind_at fields l.field) (name_at fields l.field) l.test)

-- 0
abbrev pub test_of_never : Nots
test_of_never = a_test (constant false)

module _ (fields : List Field) {B : Type 0} (whole : Ors → B) (in_or : Ands → B) (in_and : Nots → B) (in_not : Nots → B)
    (m : Standing → Plain → B) (ms : Standing → Plains → List B) where
  -- each piece of a layout is what the part is that it lays out
  pub record IsReckoned : Type 0 where
    pub none : (at : Standing) → ms at no_parts ≡ []
    pub more : (at : Standing) (t : Plain) (ts : Plains) → ms at (a_part t ts) ≡ m at t ∷ ms at ts
    pub leaf_or : (l : Leaf) → in_or (last_not (test_of_leaf fields l)) ≡ m InOr (leaf l)
    pub leaf_and : (l : Leaf) → in_and (test_of_leaf fields l) ≡ m InAnd (leaf l)
    pub leaf_not : (l : Leaf) → in_not (test_of_leaf fields l) ≡ m BehindNot (leaf l)
    pub never_or : in_or (last_not test_of_never) ≡ m InOr never
    pub never_and : in_and test_of_never ≡ m InAnd never
    pub never_not : in_not test_of_never ≡ m BehindNot never
    pub not_or : (n : Nots) (t : Plain) → in_not n ≡ m BehindNot t → in_or (last_not (not_not n)) ≡ m InOr (negated t)
    pub not_and : (n : Nots) (t : Plain) → in_not n ≡ m BehindNot t → in_and (not_not n) ≡ m InAnd (negated t)
    pub not_again : (n : Nots) (t : Plain) → in_not n ≡ m BehindNot t → in_not (not_not n) ≡ m BehindNot (negated t)
    pub any_whole : (o : Ors) (ts : Plains) → map in_or (or_parts o) ≡ ms InOr ts → whole (halved_ors o) ≡ m InOr (any ts)
    pub any_and : (o : Ors) (ts : Plains) → map in_or (or_parts o) ≡ ms InOr ts → in_and (enclosed (halved_ors o)) ≡ m InAnd (any ts)
    pub any_not : (o : Ors) (ts : Plains) → map in_or (or_parts o) ≡ ms InOr ts → in_not (enclosed (halved_ors o)) ≡ m BehindNot (any ts)
    pub all_or : (a : Ands) (ts : Plains) → map in_and (and_parts a) ≡ ms InAnd ts → in_or (halved_ands a) ≡ m InOr (all ts)
    pub all_not : (a : Ands) (ts : Plains) → map in_and (and_parts a) ≡ ms InAnd ts → in_not (enclosed (last_and (halved_ands a))) ≡ m BehindNot (all ts)
    pub one_whole : (a : Ands) → whole (halved_ors (last_and a)) ≡ in_or a

  record Agrees (f : Form) (g : Plain) : Type 0 where
    or : map in_or (or_parts f.in_or) ≡ ms InOr (parts_of Any g)
    and : map in_and (and_parts f.in_and) ≡ ms InAnd (parts_of All g)
    not : in_not f.in_not ≡ m BehindNot g

  module _ (r : IsReckoned) where
    joined_parts : (at : Standing) (us ts : Plains) → ms at (append us ts) ≡ ms at us ++ ms at ts
    joined_parts at no_parts ts = ap (λ (xs : List B). xs ++ ms at ts) (sym (r.none at))
    joined_parts at (a_part u us) ts =
        r.more at u (append us ts) ∙ (ap (λ (xs : List B). m at u ∷ xs) (joined_parts at us ts) ∙ ap (λ (xs : List B). xs ++ ms at ts) (sym (r.more at u us)))

    one_part : (at : Standing) (t : Plain) → m at t ∷ [] ≡ ms at (a_part t no_parts)
    one_part at t = sym (r.more at t no_parts ∙ ap (λ (xs : List B). m at t ∷ xs) (r.none at))

    just : (at : Standing) (t : Plain) (b : B) → b ≡ m at t → b ∷ [] ≡ ms at (a_part t no_parts)
    just at t b is = ap (λ (x : B). x ∷ []) is ∙ one_part at t

    agrees_test : (l : Leaf) → Agrees (form_of_not (test_of_leaf fields l)) (leaf l)
    agrees_test l = record {
      or = just InOr (leaf l) (in_or (last_not (test_of_leaf fields l))) (r.leaf_or l);
      and = just InAnd (leaf l) (in_and (test_of_leaf fields l)) (r.leaf_and l);
      not = r.leaf_not l;
    }

    agrees_never : Agrees (form_of_not test_of_never) never
    agrees_never = record {
      or = just InOr never (in_or (last_not test_of_never)) r.never_or;
      and = just InAnd never (in_and test_of_never) r.never_and;
      not = r.never_not;
    }

    agrees_any : (o : Ors) (ts : Plains) → map in_or (or_parts o) ≡ ms InOr ts → Agrees (form_of_or o) (any ts)
    agrees_any o ts h = record {
      or = h;
      and = just InAnd (any ts) (in_and (enclosed (halved_ors o))) (r.any_and o ts h);
      not = r.any_not o ts h;
    }

    agrees_all : (a : Ands) (ts : Plains) → map in_and (and_parts a) ≡ ms InAnd ts → Agrees (form_of_and a) (all ts)
    agrees_all a ts h = record {
      or = just InOr (all ts) (in_or (halved_ands a)) (r.all_or a ts h);
      and = h;
      not = r.all_not a ts h;
    }

    agrees_not : (n : Nots) (t : Plain) → in_not n ≡ m BehindNot t → Agrees (form_of_not (not_not n)) (negated t)
    agrees_not n t h = record {
      or = just InOr (negated t) (in_or (last_not (not_not n))) (r.not_or n t h);
      and = just InAnd (negated t) (in_and (not_not n)) (r.not_and n t h);
      not = r.not_again n t h;
    }

    join_or : (o p : Ors) (us ts : Plains) → map in_or (or_parts o) ≡ ms InOr us → map in_or (or_parts p) ≡ ms InOr ts
        → map in_or (or_parts (or_join o p)) ≡ ms InOr (append us ts)
    join_or o p us ts first second =
        ap (map in_or) (or_parts_joined o p)
        ∙ (map-append in_or (or_parts o) (or_parts p)
        ∙ (ap (λ (xs : List B). xs ++ map in_or (or_parts p)) first ∙ (ap (λ (xs : List B). ms InOr us ++ xs) second ∙ sym (joined_parts InOr us ts))))

    join_and : (a b : Ands) (us ts : Plains) → map in_and (and_parts a) ≡ ms InAnd us → map in_and (and_parts b) ≡ ms InAnd ts
        → map in_and (and_parts (and_join a b)) ≡ ms InAnd (append us ts)
    join_and a b us ts first second =
        ap (map in_and) (and_parts_joined a b)
        ∙ (map-append in_and (and_parts a) (and_parts b)
        ∙ (ap (λ (xs : List B). xs ++ map in_and (and_parts b)) first ∙ (ap (λ (xs : List B). ms InAnd us ++ xs) second ∙ sym (joined_parts InAnd us ts))))

    -- a leaf behind its guards
    agrees_guarded : (o : Option ℕ) (l : Leaf)
        → Agrees (form (sql.all (sql.leaf (has_value (name_at fields l.field))) (behind_other fields o (written_test fields (kind_at fields l.field) (name_at fields l.field) l.test))))
        (all (a_part (leaf (guard_of l.field l)) (parts_behind o l)))
    agrees_guarded None l =
        let g = guard_of l.field l in
        agrees_all (and_join (last_not (test_of_leaf fields g)) (last_not (test_of_leaf fields l)))
        (a_part (leaf g) (a_part (leaf l) no_parts))
        (join_and (last_not (test_of_leaf fields g)) (last_not (test_of_leaf fields l)) (a_part (leaf g) no_parts) (a_part (leaf l) no_parts)
        (agrees_test g).and (agrees_test l).and)
    agrees_guarded (Some other) l =
        let g = guard_of l.field l in
        let h = guard_of other l in
        let rest = and_join (last_not (test_of_leaf fields h)) (last_not (test_of_leaf fields l)) in
        agrees_all (and_join (last_not (test_of_leaf fields g)) rest)
        (a_part (leaf g) (a_part (leaf h) (a_part (leaf l) no_parts)))
        (join_and (last_not (test_of_leaf fields g)) rest (a_part (leaf g) no_parts) (a_part (leaf h) (a_part (leaf l) no_parts))
        (agrees_test g).and
        (join_and (last_not (test_of_leaf fields h)) (last_not (test_of_leaf fields l)) (a_part (leaf h) no_parts) (a_part (leaf l) no_parts)
        (agrees_test h).and (agrees_test l).and))

    agrees_leaf : (so : Bool) (l : Leaf) → Agrees (form (guarded_test fields so (kind_at fields l.field) (name_at fields l.field) l.test)) (guarded_leaf so l)
    agrees_leaf true l = agrees_guarded (other_of l.test) l
    agrees_leaf false l = agrees_test l

    mutual
      agrees : (odd : Bool) (t : Plain) → IsSound fields t → Agrees (form (sql_tree fields odd t)) (guarded odd t)
      agrees odd (all no_parts) s = absurd s.0
      agrees odd (all (a_part t no_parts)) s = absurd s.0
      agrees odd (all (a_part t (a_part u ts))) s =
          let a = (form (sql_tree fields odd t)).in_and in
          let b = ands_behind (form (sql_tree fields odd u)).in_and (sql_trees fields odd ts) in
          agrees_all (and_join a b) (guarded_parts All odd (a_part t (a_part u ts)))
          (join_and a b (parts_of All (guarded odd t)) (guarded_parts All odd (a_part u ts)) (agrees odd t s.1.0).and
          (ands_agree odd (form (sql_tree fields odd u)).in_and (parts_of All (guarded odd u)) ts s.1.1.1 (agrees odd u s.1.1.0).and))
      agrees odd (any no_parts) s = absurd s.0
      agrees odd (any (a_part t no_parts)) s = absurd s.0
      agrees odd (any (a_part t (a_part u ts))) s =
          let o = (form (sql_tree fields odd t)).in_or in
          let p = ors_behind (form (sql_tree fields odd u)).in_or (sql_trees fields odd ts) in
          agrees_any (or_join o p) (guarded_parts Any odd (a_part t (a_part u ts)))
          (join_or o p (parts_of Any (guarded odd t)) (guarded_parts Any odd (a_part u ts)) (agrees odd t s.1.0).or
          (ors_agree odd (form (sql_tree fields odd u)).in_or (parts_of Any (guarded odd u)) ts s.1.1.1 (agrees odd u s.1.1.0).or))
      agrees odd (negated t) s = agrees_not (form (sql_tree fields (not odd) t)).in_not (guarded (not odd) t) (agrees (not odd) t s).not
      agrees true (leaf l) s = agrees_leaf (is_unsure l.test) l
      agrees false (leaf l) s = agrees_leaf false l
      agrees odd never s = agrees_never

      ands_agree : (odd : Bool) (a : Ands) (us ts : Plains) → AreSound fields ts → map in_and (and_parts a) ≡ ms InAnd us
          → map in_and (and_parts (ands_behind a (sql_trees fields odd ts))) ≡ ms InAnd (append us (guarded_parts All odd ts))
      ands_agree odd a us no_parts s h = h ∙ ap (ms InAnd) (sym (append_none us))
      ands_agree odd a us (a_part t ts) s h =
          let b = (form (sql_tree fields odd t)).in_and in
          join_and a (ands_behind b (sql_trees fields odd ts)) us (guarded_parts All odd (a_part t ts)) h
          (ands_agree odd b (parts_of All (guarded odd t)) ts s.1 (agrees odd t s.0).and)

      ors_agree : (odd : Bool) (o : Ors) (us ts : Plains) → AreSound fields ts → map in_or (or_parts o) ≡ ms InOr us
          → map in_or (or_parts (ors_behind o (sql_trees fields odd ts))) ≡ ms InOr (append us (guarded_parts Any odd ts))
      ors_agree odd o us no_parts s h = h ∙ ap (ms InOr) (sym (append_none us))
      ors_agree odd o us (a_part t ts) s h =
          let p = (form (sql_tree fields odd t)).in_or in
          join_or o (ors_behind p (sql_trees fields odd ts)) us (guarded_parts Any odd (a_part t ts)) h
          (ors_agree odd p (parts_of Any (guarded odd t)) ts s.1 (agrees odd t s.0).or)

    -- ---- the whole

    one_is : (o : Ors) (t : Plain) → map in_or (or_parts o) ≡ ms InOr (a_part t no_parts) → whole (halved_ors o) ≡ m InOr t
    one_is o t h = single o (m InOr t) (h ∙ sym (one_part InOr t)) where
      single : (p : Ors) (b : B) → map in_or (or_parts p) ≡ b ∷ [] → whole (halved_ors p) ≡ b
      single (last_and a) b is = r.one_whole a ∙ cc
      single (and_or a (last_and c)) b is = absurd (omega (arith, ap length is))
      single (and_or a (and_or c p)) b is = absurd (omega (arith, ap length is))

    whole_is : (o : Ors) (t : Plain) → map in_or (or_parts o) ≡ ms InOr (parts_of Any t) → whole (halved_ors o) ≡ m InOr t
    whole_is o (all ts) h = one_is o (all ts) h
    whole_is o (any ts) h = r.any_whole o ts h
    whole_is o (negated t) h = one_is o (negated t) h
    whole_is o (leaf l) h = one_is o (leaf l) h
    whole_is o never h = one_is o never h

    pub reckoned : (odd : Bool) (t : Plain) → IsSound fields t → whole (halved_ors (form (sql_tree fields odd t)).in_or) ≡ m InOr (guarded odd t)
    reckoned odd t s = whole_is (form (sql_tree fields odd t)).in_or (guarded odd t) (agrees odd t s).or
