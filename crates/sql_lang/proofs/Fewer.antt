-- Where places are refused for their regular expressions, a query has the faults that it has anyhow, and these places.
use Rattle.std.proofs.Common.{ℕ, suc, ◌≡◌, refl, sym, Bool, true, false, List, [], ◌∷◌, ◌++◌, length, drop, ◌+◌, subst, not}
use Rattle.query_lang.specs.RefusedPlaces.{is_of_pattern}
use Rattle.event_schema.specs.Lists.{EachOf}
use Rattle.event_schema.specs.declared.schema.Field.{Field}
use Rattle.event_schema.specs.declared.schema.Schema.{Schema}
use Rattle.query_tokens.specs.Places.{At, CodeAt, code_at_if, nth}
use Rattle.sql_lang.specs.Grammar.{Leaf, regexp, spell_not, spell_and, spell_nots, Ors, last_and, and_or, Ands, last_not, not_and, Nots, not_not, a_test, enclosed, Query}
use Rattle.sql_lang.specs.Faults.{is_refused, refused_at, name_faults, test_faults, or_faults, and_faults, not_faults, query_faults}
use Rattle.sql_lang.specs.Reading.{IsRefusedPlace}
use Rattle.sql_lang.specs.Names.{is_named}

none_both : {A : Type 0} (xs ys : List A) → xs ++ ys ≡ [] → (xs ≡ []) × (ys ≡ [])
none_both [] ys none = (refl, none)
none_both (x ∷ xs) ys none = absurd cc

each_both : {A : Type 0} (P : A → Type 0) (xs ys : List A) → EachOf P xs → EachOf P ys → EachOf P (xs ++ ys)
each_both P [] ys first second = second
each_both P (x ∷ xs) ys first second = (first.0, each_both P xs ys first.1 second)

module _ (fields : List Field) (refused : List CodeAt) where
  abbrev AreRefusedPlaces : List CodeAt → Type 0
  AreRefusedPlaces fs = EachOf (IsRefusedPlace refused) fs

  none_are : (fs : List CodeAt) → fs ≡ [] → AreRefusedPlaces fs
  none_are fs none = subst AreRefusedPlaces (sym none) tt

  -- ---- none with the list is none without it

  fewer_test : (t : Leaf) (ps : List At) → test_faults fields refused t ps ≡ [] → test_faults fields [] t ps ≡ []
  fewer_test (regexp n b v) ps none =
      let none_named = (none_both (name_faults fields n false (nth ps 0)) (refused_at refused (nth ps (2 + length (spell_not b)))) none).0 in
      rw none_named refl
  fewer_test t ps none = none

  mutual
    fewer_or : (o : Ors) (ps : List At) → or_faults fields refused o ps ≡ [] → or_faults fields [] o ps ≡ []
    fewer_or (last_and a) ps none = fewer_and a ps none
    fewer_or (and_or a o) ps none =
        let n = none_both (and_faults fields refused a ps) (or_faults fields refused o (drop (suc (length (spell_and a))) ps)) none in
        rw (fewer_and a ps n.0) (fewer_or o (drop (suc (length (spell_and a))) ps) n.1)

    fewer_and : (a : Ands) (ps : List At) → and_faults fields refused a ps ≡ [] → and_faults fields [] a ps ≡ []
    fewer_and (last_not v) ps none = fewer_not v ps none
    fewer_and (not_and v a) ps none =
        let n = none_both (not_faults fields refused v ps) (and_faults fields refused a (drop (suc (length (spell_nots v))) ps)) none in
        rw (fewer_not v ps n.0) (fewer_and a (drop (suc (length (spell_nots v))) ps) n.1)

    fewer_not : (n : Nots) (ps : List At) → not_faults fields refused n ps ≡ [] → not_faults fields [] n ps ≡ []
    fewer_not (not_not n) ps none = fewer_not n (drop 1 ps) none
    fewer_not (a_test t) ps none = fewer_test t ps none
    fewer_not (enclosed o) ps none = fewer_or o (drop 1 ps) none

  -- ---- where there is none without the list, those with it are its places

  at_place : (p : At) → AreRefusedPlaces (refused_at refused p)
  at_place p = each_both (IsRefusedPlace refused) (code_at_if (is_refused refused 47 p) 47 p) (code_at_if (is_refused refused 48 p) 48 p)
      (by 47 refl (is_refused refused 47 p) refl) (by 48 refl (is_refused refused 48 p) refl) where
        by : (code : ℕ) → is_of_pattern code ≡ true → (b : Bool) → is_refused refused code p ≡ b → AreRefusedPlaces (code_at_if b code p)
        by code so true is = ((is, so), tt)
        by code so false is = tt

  only_test : (t : Leaf) (ps : List At) → test_faults fields [] t ps ≡ [] → AreRefusedPlaces (test_faults fields refused t ps)
  only_test (regexp n b v) ps none =
      let named = name_faults fields n false (nth ps 0) in
      each_both (IsRefusedPlace refused) named (refused_at refused (nth ps (2 + length (spell_not b)))) (none_are named (none_both named [] none).0)
      (at_place (nth ps (2 + length (spell_not b))))
  only_test t ps none = none_are (test_faults fields [] t ps) none

  mutual
    only_or : (o : Ors) (ps : List At) → or_faults fields [] o ps ≡ [] → AreRefusedPlaces (or_faults fields refused o ps)
    only_or (last_and a) ps none = only_and a ps none
    only_or (and_or a o) ps none =
        let n = none_both (and_faults fields [] a ps) (or_faults fields [] o (drop (suc (length (spell_and a))) ps)) none in
        each_both (IsRefusedPlace refused) (and_faults fields refused a ps) (or_faults fields refused o (drop (suc (length (spell_and a))) ps))
        (only_and a ps n.0) (only_or o (drop (suc (length (spell_and a))) ps) n.1)

    only_and : (a : Ands) (ps : List At) → and_faults fields [] a ps ≡ [] → AreRefusedPlaces (and_faults fields refused a ps)
    only_and (last_not v) ps none = only_not v ps none
    only_and (not_and v a) ps none =
        let n = none_both (not_faults fields [] v ps) (and_faults fields [] a (drop (suc (length (spell_nots v))) ps)) none in
        each_both (IsRefusedPlace refused) (not_faults fields refused v ps) (and_faults fields refused a (drop (suc (length (spell_nots v))) ps))
        (only_not v ps n.0) (only_and a (drop (suc (length (spell_nots v))) ps) n.1)

    only_not : (n : Nots) (ps : List At) → not_faults fields [] n ps ≡ [] → AreRefusedPlaces (not_faults fields refused n ps)
    only_not (not_not n) ps none = only_not n (drop 1 ps) none
    only_not (a_test t) ps none = only_test t ps none
    only_not (enclosed o) ps none = only_or o (drop 1 ps) none

module _ (schema : Schema) (refused : List CodeAt) (q : Query) (ps : List At) where
  abbrev of_table : List CodeAt
  of_table = code_at_if (not (is_named q.table schema.table)) 122 (nth ps 3)

  pub fewer : query_faults schema refused q ps ≡ [] → query_faults schema [] q ps ≡ []
  fewer none =
      let n = none_both of_table (or_faults schema.fields refused q.condition (drop 5 ps)) none in
      rw n.0 (fewer_or schema.fields refused q.condition (drop 5 ps) n.1)

  pub first_refused : (f : CodeAt) (more : List CodeAt) → query_faults schema [] q ps ≡ [] → query_faults schema refused q ps ≡ f ∷ more → IsRefusedPlace refused f
  first_refused f more none is =
      let n = none_both of_table (or_faults schema.fields [] q.condition (drop 5 ps)) none in
      let all = each_both (IsRefusedPlace refused) of_table (or_faults schema.fields refused q.condition (drop 5 ps)) (none_are schema.fields refused of_table n.0)
      (only_or schema.fields refused q.condition (drop 5 ps) n.1) in
      (subst (EachOf (IsRefusedPlace refused)) is all).0
