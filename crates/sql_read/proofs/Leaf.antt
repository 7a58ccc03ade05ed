-- One test: what is wrong with it anyhow comes first, then its regular expression is built.
use Rattle.std.specs.Prelude.{Some, None, Err}
use Rattle.std.proofs.Common.{ℕ, ◌≡◌, ◌+◌, refl, sym, ◌∙◌, ap, subst, Bool, true, List, [], ◌∷◌, ◌++◌, length, append-nil, inl}
use Rattle.std.proofs.Math.Logic.{∥∥₁_elim}
use Rattle.std.specs.Coded.{coded_bool}
use base.Stored.{Coded-set}
use Rattle.sig_base.specs.declared.refusal.Fault.{Fault}
use Rattle.sig_base.specs.declared.refusal.Fault.TheVariants.{Memory, Refused}
use Rattle.sig_base.specs.declared.refusal.Refusal.{Refusal}
use Rattle.event_schema.specs.declared.schema.Field.{Field}
use Rattle.query_lang.specs.Patterns.{is_pattern}
use Rattle.query_lang.proofs.Finding.{built_is_pattern}
use Rattle.query_tokens.specs.Places.{At, CodeAt, nth}
use Rattle.sql_lang.specs.Grammar.{Leaf, constant, is_null, compares, like, glob, regexp, one_of, between, spell_not}
use Rattle.sql_lang.specs.Expression.{SqlTest, Regexp, test_of}
use Rattle.sql_lang.specs.Faults.{is_ill, name_faults, test_faults}
use Rattle.sql_lang.specs.View.{test_view}
use Rattle.sql_lang.specs.declared.query.SqlTest.{SqlTest as Test}
use Rattle.sql_lang.specs.declared.query.SqlTest.TheVariants as tests
use Rattle.sql_check.specs.Refused.{refusal_of, refusal_if, first_fault}
use Rattle.sql_read.specs.Checks.{Check, Builds, sure, IsUnbuilt, StopsFor, AreBuilt, pattern_place, test_checks}
use Rattle.sql_read.specs.Walks.{WalkStops, BuiltAnswers}

none_first : (fs : List CodeAt) → refusal_if (first_fault fs) ≡ None → fs ≡ []
none_first [] e = refl
none_first (f ∷ fs) e = absurd cc

first_stops : (before : List (List ℕ)) (fs : List CodeAt) (r : Refusal) (cs : List Check) → refusal_if (first_fault fs) ≡ Some r → StopsFor before before r (sure fs ++ cs)
first_stops before [] r cs e = absurd cc
first_stops before (f ∷ fs) r cs e = let is : refusal_of f ≡ r = cc in (refl, sym is)

is_searched : (t : Test) (k : ℕ) (b : Bool) (p : List ℕ) → test_view t ≡ Regexp k b p → is_pattern p ≡ true
is_searched (tests.Constant v) k b p e = absurd cc
is_searched (tests.IsNull f n) k b p e = absurd cc
is_searched (tests.Compare x op y) k b p e = absurd cc
is_searched (tests.Like f n v o) k b p e = absurd cc
is_searched (tests.Glob f n v) k b p e = absurd cc
is_searched (tests.Regexp f n s) k b p e =
    let same : s.value.text ≡ p = cc in
    subst (λ (t : List ℕ). is_pattern t ≡ true) same (∥∥₁_elim s.value.built (Coded-set coded_bool _ _) (λ i. built_is_pattern s.value.text s.value.regex i))
is_searched (tests.OneOf x n ys) k b p e = absurd cc
is_searched (tests.Between x n low high) k b p e = absurd cc

module _ (fields : List Field) where
  pub judged : (before : List (List ℕ)) (t : Leaf) (ps : List At) (r : Refusal) → refusal_if (first_fault (test_faults fields [] t ps)) ≡ Some r
      → StopsFor before before r (test_checks fields t ps)
  judged before (regexp n b v) ps r e =
      let names = name_faults fields n (is_ill fields (regexp n b v)) (nth ps 0) in
      first_stops before names r (Builds (record { place = nth ps (2 + length (spell_not b)); pattern = v }) ∷ []) (ap (λ (fs : List CodeAt). refusal_if (first_fault fs)) (sym (append-nil names)) ∙ e)
  judged before (constant b) ps r e = absurd cc
  judged before t ps r e = subst (StopsFor before before r) (append-nil (sure (test_faults fields [] t ps))) (first_stops before (test_faults fields [] t ps) r [] e)

  none_sure : (t : Leaf) (ps : List At) → refusal_if (first_fault (test_faults fields [] t ps)) ≡ None → AreBuilt (sure (test_faults fields [] t ps))
  none_sure t ps e = subst (λ (fs : List CodeAt). AreBuilt (sure fs)) (sym (none_first (test_faults fields [] t ps) e)) tt

  pub leaf_built : (t : Leaf) (ps : List At) (u : Test) → refusal_if (first_fault (test_faults fields [] t ps)) ≡ None → test_view u ≡ test_of fields t → AreBuilt (test_checks fields t ps)
  leaf_built (regexp n b v) ps u none is =
      let names = name_faults fields n (is_ill fields (regexp n b v)) (nth ps 0) in
      let own = Builds (record { place = nth ps (2 + length (spell_not b)); pattern = v }) in
      let empty : names ≡ [] = none_first names (ap (λ (fs : List CodeAt). refusal_if (first_fault fs)) (sym (append-nil names)) ∙ none) in
      subst (λ (fs : List CodeAt). AreBuilt (sure fs ++ own ∷ [])) (sym empty) (is_searched u _ _ v is, tt)
  leaf_built t ps u none is = none_sure t ps none

  unbuilt_at : (before after : List (List ℕ)) (t : Leaf) (ps : List At) (r : Refusal) (k : ℕ) (b : Bool) (p : List ℕ) → refusal_if (first_fault (test_faults fields [] t ps)) ≡ None
      → test_of fields t ≡ Regexp k b p → IsUnbuilt before after (record { place = pattern_place t ps; pattern = p }) r → StopsFor before after r (test_checks fields t ps)
  unbuilt_at before after (regexp n c v) ps r k b p none is h =
      let names = name_faults fields n (is_ill fields (regexp n c v)) (nth ps 0) in
      let at = nth ps (2 + length (spell_not c)) in
      let same : v ≡ p = cc in
      let empty : names ≡ [] = none_first names (ap (λ (fs : List CodeAt). refusal_if (first_fault fs)) (sym (append-nil names)) ∙ none) in
      subst (λ (fs : List CodeAt). StopsFor before after r (sure fs ++ Builds (record { place = at; pattern = v }) ∷ [])) (sym empty)
      (inl (subst (λ (w : List ℕ). IsUnbuilt before after (record { place = at; pattern = w }) r) (sym same) h))
  unbuilt_at before after (constant c) ps r k b p none is h = absurd cc
  unbuilt_at before after (is_null n c) ps r k b p none is h = absurd cc
  unbuilt_at before after (compares n c op x d) ps r k b p none is h = absurd cc
  unbuilt_at before after (like n c v e) ps r k b p none is h = absurd cc
  unbuilt_at before after (glob n c v) ps r k b p none is h = absurd cc
  unbuilt_at before after (one_of n c d ls l) ps r k b p none is h = absurd cc
  unbuilt_at before after (between n c d low high) ps r k b p none is h = absurd cc

  pub leaf_stops : (before after : List (List ℕ)) (t : Leaf) (ps : List At) (test : SqlTest) (place : At) (stop : Fault) → refusal_if (first_fault (test_faults fields [] t ps)) ≡ None
      → test ≡ test_of fields t → place ≡ pattern_place t ps → BuiltAnswers before after test place (Err stop) → WalkStops before after (test_checks fields t ps) stop
  leaf_stops before after t ps test place Memory none is at h = h
  leaf_stops before after t ps test place (Refused r) none is at (k, b, p, same, h) =
      unbuilt_at before after t ps r k b p none (sym is ∙ same) (subst (λ (q : At). IsUnbuilt before after (record { place = q; pattern = p }) r) at h)
