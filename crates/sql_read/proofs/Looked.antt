-- What is looked at in a query gives its faults, in their order.
use Rattle.std.specs.Prelude.{Option, Some, None}
use Rattle.std.proofs.Common.{ℕ, suc, ◌≡◌, refl, sym, ◌∙◌, ap, Bool, true, false, not, List, [], ◌∷◌, ◌++◌, length, drop, ◌+◌, append-nil, append_assoc}
use Rattle.event_schema.specs.Lists.{EachOf}
use Rattle.event_schema.specs.declared.schema.Field.{Field}
use Rattle.event_schema.specs.declared.schema.Schema.{Schema}
use Rattle.query_lang.specs.RefusedPlaces.{is_of_pattern}
use Rattle.query_tokens.specs.Places.{At, CodeAt, code_at_if, nth}
use Rattle.sql_lang.specs.Grammar.{Right, a_name, a_literal, Leaf, constant, is_null, compares, like, glob, regexp, one_of, between, spell_not, spell_collate, spell_and, spell_nots, Ors, last_and, and_or, Ands, last_not, not_and, Nots, not_not, a_test, enclosed, Query}
use Rattle.sql_lang.specs.Faults.{refused_at, is_ill, is_bad_like, is_bad_glob, like_faults, right_faults, name_faults, unknown, test_faults, or_faults, and_faults, not_faults, query_faults}
use Rattle.sql_lang.specs.Names.{is_named}
use Rattle.sql_read.specs.Checks.{Check, Sure, Builds, sure, test_checks, or_checks, and_checks, not_checks, query_checks}

module _ (refused : List CodeAt) where
  abbrev pub faults_of : List Check → List CodeAt
  faults_of [] = []
  faults_of (Sure f ∷ cs) = f ∷ faults_of cs
  faults_of (Builds p ∷ cs) = refused_at refused p.place ++ faults_of cs

  pub faults_both : (xs ys : List Check) → faults_of (xs ++ ys) ≡ faults_of xs ++ faults_of ys
  faults_both [] ys = refl
  faults_both (Sure f ∷ xs) ys = ap (λ (fs : List CodeAt). f ∷ fs) (faults_both xs ys)
  faults_both (Builds p ∷ xs) ys =
      ap (λ (fs : List CodeAt). refused_at refused p.place ++ fs) (faults_both xs ys) ∙ sym (append_assoc (refused_at refused p.place) (faults_of xs) (faults_of ys))

  pub faults_sure : (fs : List CodeAt) → faults_of (sure fs) ≡ fs
  faults_sure [] = refl
  faults_sure (f ∷ fs) = ap (λ (gs : List CodeAt). f ∷ gs) (faults_sure fs)

module _ (fields : List Field) (refused : List CodeAt) where
  test_looked : (t : Leaf) (ps : List At) → test_faults fields refused t ps ≡ faults_of refused (test_checks fields t ps)
  test_looked (regexp n b v) ps =
      let named = name_faults fields n (is_ill fields (regexp n b v)) (nth ps 0) in
      let own = refused_at refused (nth ps (2 + length (spell_not b))) in
      sym (faults_both refused (sure named) (Builds (record { place = nth ps (2 + length (spell_not b)); pattern = v }) ∷ [])
      ∙ (ap (λ (fs : List CodeAt). fs ++ (own ++ [])) (faults_sure refused named) ∙ ap (λ (fs : List CodeAt). named ++ fs) (append-nil own)))
  test_looked t ps = sym (faults_sure refused (test_faults fields [] t ps))

  mutual
    or_looked : (o : Ors) (ps : List At) → or_faults fields refused o ps ≡ faults_of refused (or_checks fields o ps)
    or_looked (last_and a) ps = and_looked a ps
    or_looked (and_or a o) ps =
        let behind = drop (suc (length (spell_and a))) ps in
        ap (λ (fs : List CodeAt). fs ++ or_faults fields refused o behind) (and_looked a ps)
        ∙ (ap (λ (fs : List CodeAt). faults_of refused (and_checks fields a ps) ++ fs) (or_looked o behind)
        ∙ sym (faults_both refused (and_checks fields a ps) (or_checks fields o behind)))

    and_looked : (a : Ands) (ps : List At) → and_faults fields refused a ps ≡ faults_of refused (and_checks fields a ps)
    and_looked (last_not v) ps = not_looked v ps
    and_looked (not_and v a) ps =
        let behind = drop (suc (length (spell_nots v))) ps in
        ap (λ (fs : List CodeAt). fs ++ and_faults fields refused a behind) (not_looked v ps)
        ∙ (ap (λ (fs : List CodeAt). faults_of refused (not_checks fields v ps) ++ fs) (and_looked a behind)
        ∙ sym (faults_both refused (not_checks fields v ps) (and_checks fields a behind)))

    not_looked : (n : Nots) (ps : List At) → not_faults fields refused n ps ≡ faults_of refused (not_checks fields n ps)
    not_looked (not_not n) ps = not_looked n (drop 1 ps)
    not_looked (a_test t) ps = test_looked t ps
    not_looked (enclosed o) ps = or_looked o (drop 1 ps)

pub looked : (schema : Schema) (refused : List CodeAt) (q : Query) (ps : List At) → query_faults schema refused q ps ≡ faults_of refused (query_checks schema q ps)
looked schema refused q ps =
    let table = code_at_if (not (is_named q.table schema.table)) 122 (nth ps 3) in
    let own = or_checks schema.fields q.condition (drop 5 ps) in
    ap (λ (fs : List CodeAt). table ++ fs) (or_looked schema.fields refused q.condition (drop 5 ps))
    ∙ (ap (λ (fs : List CodeAt). fs ++ faults_of refused own) (sym (faults_sure refused table)) ∙ sym (faults_both refused (sure table) own))

-- ---- no fault that stands anyhow has a code of regular expressions

abbrev pub AreOwn : List Check → Type 0
AreOwn [] = Unit {0}
AreOwn (Sure f ∷ cs) = (is_of_pattern f.code ≡ false) × AreOwn cs
AreOwn (Builds p ∷ cs) = AreOwn cs

own_both : (xs ys : List Check) → AreOwn xs → AreOwn ys → AreOwn (xs ++ ys)
own_both [] ys first second = second
own_both (Sure f ∷ xs) ys first second = (first.0, own_both xs ys first.1 second)
own_both (Builds p ∷ xs) ys first second = own_both xs ys first second

abbrev Own : List CodeAt → Type 0
Own fs = EachOf (λ (f : CodeAt). is_of_pattern f.code ≡ false) fs

each_own : (xs ys : List CodeAt) → Own xs → Own ys → Own (xs ++ ys)
each_own [] ys first second = second
each_own (x ∷ xs) ys first second = (first.0, each_own xs ys first.1 second)

one_own : (b : Bool) (code : ℕ) (p : At) → is_of_pattern code ≡ false → Own (code_at_if b code p)
one_own true code p is = (is, tt)
one_own false code p is = tt

sure_own : (fs : List CodeAt) → Own fs → AreOwn (sure fs)
sure_own [] own = tt
sure_own (f ∷ fs) own = (own.0, sure_own fs own.1)

like_own : (v : List ℕ) (e : Option (List ℕ)) (p q : At) → Own (like_faults v e p q)
like_own v None p q = tt
like_own v (Some []) p q = (refl, tt)
like_own v (Some (e ∷ [])) p q = one_own (is_bad_like e v) 125 p refl
like_own v (Some (e ∷ f ∷ es)) p q = (refl, tt)

module _ (fields : List Field) where
  named_own : (n : List ℕ) (ill : Bool) (p : At) → Own (name_faults fields n ill p)
  named_own n ill p = each_own (code_at_if (unknown fields n) 122 p) (code_at_if ill 123 p) (one_own (unknown fields n) 122 p refl) (one_own ill 123 p refl)

  right_own : (x : Right) (p : At) → Own (right_faults fields x p)
  right_own (a_name m) p = one_own (unknown fields m) 122 p refl
  right_own (a_literal l) p = tt

  test_own : (t : Leaf) (ps : List At) → AreOwn (test_checks fields t ps)
  test_own (constant b) ps = tt
  test_own (is_null n b) ps = sure_own _ (named_own n false (nth ps 0))
  test_own (compares n c op x d) ps =
      sure_own _ (each_own (name_faults fields n (is_ill fields (compares n c op x d)) (nth ps 0)) (right_faults fields x (nth ps (2 + length (spell_collate c))))
      (named_own n (is_ill fields (compares n c op x d)) (nth ps 0)) (right_own x (nth ps (2 + length (spell_collate c)))))
  test_own (like n b v e) ps =
      sure_own _ (each_own (name_faults fields n false (nth ps 0)) (like_faults v e (nth ps (2 + length (spell_not b))) (nth ps (4 + length (spell_not b))))
      (named_own n false (nth ps 0)) (like_own v e (nth ps (2 + length (spell_not b))) (nth ps (4 + length (spell_not b)))))
  test_own (glob n b v) ps =
      sure_own _ (each_own (name_faults fields n false (nth ps 0)) (code_at_if (is_bad_glob v) 125 (nth ps (2 + length (spell_not b))))
      (named_own n false (nth ps 0)) (one_own (is_bad_glob v) 125 (nth ps (2 + length (spell_not b))) refl))
  test_own (regexp n b v) ps =
      own_both (sure (name_faults fields n false (nth ps 0))) (Builds (record { place = nth ps (2 + length (spell_not b)); pattern = v }) ∷ [])
      (sure_own _ (named_own n false (nth ps 0))) tt
  test_own (one_of n c b ls l) ps = sure_own _ (named_own n (is_ill fields (one_of n c b ls l)) (nth ps 0))
  test_own (between n c b low high) ps = sure_own _ (named_own n (is_ill fields (between n c b low high)) (nth ps 0))

  mutual
    or_own : (o : Ors) (ps : List At) → AreOwn (or_checks fields o ps)
    or_own (last_and a) ps = and_own a ps
    or_own (and_or a o) ps = let behind = drop (suc (length (spell_and a))) ps in own_both (and_checks fields a ps) (or_checks fields o behind) (and_own a ps) (or_own o behind)

    and_own : (a : Ands) (ps : List At) → AreOwn (and_checks fields a ps)
    and_own (last_not v) ps = not_own v ps
    and_own (not_and v a) ps = let behind = drop (suc (length (spell_nots v))) ps in own_both (not_checks fields v ps) (and_checks fields a behind) (not_own v ps) (and_own a behind)

    not_own : (n : Nots) (ps : List At) → AreOwn (not_checks fields n ps)
    not_own (not_not n) ps = not_own n (drop 1 ps)
    not_own (a_test t) ps = test_own t ps
    not_own (enclosed o) ps = or_own o (drop 1 ps)

pub query_own : (schema : Schema) (q : Query) (ps : List At) → AreOwn (query_checks schema q ps)
query_own schema q ps =
    let table = code_at_if (not (is_named q.table schema.table)) 122 (nth ps 3) in
    own_both (sure table) (or_checks schema.fields q.condition (drop 5 ps)) (sure_own table (one_own (not (is_named q.table schema.table)) 122 (nth ps 3) refl))
    (or_own schema.fields q.condition (drop 5 ps))
