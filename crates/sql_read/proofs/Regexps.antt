-- The regular expressions that are looked at in a query are those that stand in its text.
use Rattle.std.specs.Prelude.{Option, Some, None, if◌then◌else◌}
use Rattle.std.proofs.Common.{ℕ, suc, ◌≡◌, refl, sym, ◌∙◌, ap, subst, Bool, true, false, not, List, [], ◌∷◌, ◌++◌, length, drop, ◌+◌, append-nil, append_assoc, length-append, arith}
use Rattle.std.proofs.lemmas.List.{drop-drop}
use Rattle.event_schema.specs.Lists.{EachOf}
use Rattle.event_schema.specs.declared.schema.Field.{Field}
use Rattle.event_schema.specs.declared.schema.Schema.{Schema}
use Rattle.query_lang.specs.RefusedPlaces.{PatternAt}
use Rattle.query_tokens.specs.Places.{At, CodeAt, code_at_if, nth}
use Rattle.query_tokens.specs.Tokens.{sorts, places}
use Rattle.sql_lang.specs.Tokens.{Token, Sort, Word, Opening, Closing, Semicolon, OR, AND, NOT}
use Rattle.sql_lang.specs.Grammar.{Collate, Unsaid, NoCase, Binary, Literal, a_text, a_number, Right, a_name, a_literal, Leaf, constant, is_null, compares, like, glob, regexp, one_of, between, spell_not, spell_collate, spell_literal, spell_right, spell_escape, spell_before, spell_test, spell_or, spell_and, spell_nots, Ors, last_and, and_or, Ands, last_not, not_and, Nots, not_not, a_test, enclosed, Query, spell_query, spell_end}
use Rattle.sql_lang.specs.Faults.{is_ill, name_faults, test_faults}
use Rattle.sql_lang.specs.Names.{is_named}
use Rattle.sql_lang.specs.Regexps.{is_regexp, text_at, regexps_from}
use Rattle.sql_read.specs.Checks.{Check, Sure, Builds, sure, test_checks, or_checks, and_checks, not_checks, query_checks}

abbrev pub patterns_of : List Check → List PatternAt
patterns_of [] = []
patterns_of (Sure f ∷ cs) = patterns_of cs
patterns_of (Builds p ∷ cs) = p ∷ patterns_of cs

patterns_both : (xs ys : List Check) → patterns_of (xs ++ ys) ≡ patterns_of xs ++ patterns_of ys
patterns_both [] ys = refl
patterns_both (Sure f ∷ xs) ys = patterns_both xs ys
patterns_both (Builds p ∷ xs) ys = ap (λ (qs : List PatternAt). p ∷ qs) (patterns_both xs ys)

patterns_sure : (fs : List CodeAt) → patterns_of (sure fs) ≡ []
patterns_sure [] = refl
patterns_sure (f ∷ fs) = patterns_sure fs

-- ---- sorts and places apart

abbrev regexps_of : Bool → List Sort → List At → List PatternAt
regexps_of behind [] ps = []
regexps_of behind (s ∷ ss) ps = (if behind then text_at s (nth ps 0) else []) ++ regexps_of (is_regexp s) ss (drop 1 ps)

apart : (b : Bool) (ts : List Token) → regexps_from b ts ≡ regexps_of b (sorts ts) (places ts)
apart b [] = refl
apart b (t ∷ ts) = ap (λ (qs : List PatternAt). (if b then text_at t.sort t.place else []) ++ qs) (apart (is_regexp t.sort) ts)

drop_one : (n : ℕ) (ps : List At) → drop n (drop 1 ps) ≡ drop (suc n) ps
drop_one n ps = drop-drop n 1 ps ∙ ap (λ (k : ℕ). drop k ps) (let e : 1 + n ≡ suc n = omega arith in e)

one_drop : (n : ℕ) (ps : List At) → drop 1 (drop n ps) ≡ drop (suc n) ps
one_drop n ps = drop-drop 1 n ps ∙ ap (λ (k : ℕ). drop k ps) (let e : n + 1 ≡ suc n = omega arith in e)

-- A piece has these, and what is behind it doesn't stand behind a word REGEXP.
abbrev Has : List Sort → List At → List PatternAt → Type 0
Has xs ps own = (more : List Sort) → regexps_of false (xs ++ more) ps ≡ own ++ regexps_of false more (drop (length xs) ps)

has_front : (s : Sort) (xs : List Sort) (ps : List At) (own : List PatternAt) → is_regexp s ≡ false → Has xs (drop 1 ps) own → Has (s ∷ xs) ps own
has_front s xs ps own so has more =
    ap (λ (b : Bool). regexps_of b (xs ++ more) (drop 1 ps)) so ∙ (has more ∙ ap (λ (qs : List At). own ++ regexps_of false more qs) (drop_one (length xs) ps))

has_next : (xs : List Sort) (s : Sort) (ys : List Sort) (ps : List At) (own others : List PatternAt) → is_regexp s ≡ false
    → Has xs ps own → Has ys (drop (suc (length xs)) ps) others → Has (xs ++ s ∷ ys) ps (own ++ others)
has_next xs s ys ps own others so has next more =
    let behind = drop (suc (length xs)) ps in
    let count : length ys + suc (length xs) ≡ length (xs ++ s ∷ ys) = let h = length-append xs (s ∷ ys) in omega arith in
    ap (λ (ss : List Sort). regexps_of false ss ps) (append_assoc xs (s ∷ ys) more)
    ∙ (has (s ∷ (ys ++ more))
    ∙ (ap (λ (qs : List PatternAt). own ++ qs) (
    ap (λ (b : Bool). regexps_of b (ys ++ more) (drop 1 (drop (length xs) ps))) so
    ∙ (ap (regexps_of false (ys ++ more)) (one_drop (length xs) ps) ∙ next more))
    ∙ (sym (append_assoc own others (regexps_of false more (drop (length ys) behind)))
    ∙ ap (λ (qs : List At). (own ++ others) ++ regexps_of false more qs)
    (drop-drop (length ys) (suc (length xs)) ps ∙ ap (λ (k : ℕ). drop k ps) (let e : suc (length xs) + length ys ≡ length (xs ++ s ∷ ys) = omega arith in e)))))

-- ---- tokens without a word REGEXP

abbrev AreOther : List Sort → Type 0
AreOther ss = EachOf (λ (s : Sort). is_regexp s ≡ false) ss

other_both : (xs ys : List Sort) → AreOther xs → AreOther ys → AreOther (xs ++ ys)
other_both [] ys first second = second
other_both (x ∷ xs) ys first second = (first.0, other_both xs ys first.1 second)

has_none : (xs : List Sort) (ps : List At) → AreOther xs → Has xs ps []
has_none [] ps other more = refl
has_none (s ∷ xs) ps other more = has_front s xs ps [] other.0 (has_none xs (drop 1 ps) other.1) more

other_not : (b : Bool) → AreOther (spell_not b)
other_not true = (refl, tt)
other_not false = tt

other_collate : (c : Collate) → AreOther (spell_collate c)
other_collate Unsaid = tt
other_collate NoCase = (refl, (refl, tt))
other_collate Binary = (refl, (refl, tt))

other_literal : (l : Literal) → is_regexp (spell_literal l) ≡ false
other_literal (a_text t) = refl
other_literal (a_number w) = refl

other_right : (x : Right) → is_regexp (spell_right x) ≡ false
other_right (a_name n) = refl
other_right (a_literal l) = other_literal l

other_escape : (e : Option (List ℕ)) → AreOther (spell_escape e)
other_escape None = tt
other_escape (Some e) = (refl, (refl, tt))

other_before : (ls : List Literal) → AreOther (spell_before ls)
other_before [] = tt
other_before (l ∷ ls) = (other_literal l, (refl, other_before ls))

-- ---- pieces

second_place : (ps : List At) → nth (drop 1 (drop 1 ps)) 0 ≡ nth ps 2
second_place [] = refl
second_place (p ∷ []) = refl
second_place (p ∷ q ∷ ps) = refl

module _ (fields : List Field) where
  has_plain : (t : Leaf) (ps : List At) → AreOther (spell_test t) → Has (spell_test t) ps (patterns_of (sure (test_faults fields [] t ps)))
  has_plain t ps other = subst (Has (spell_test t) ps) (sym (patterns_sure (test_faults fields [] t ps))) (has_none (spell_test t) ps other)

  abbrev at_text : Bool → List ℕ → List At → PatternAt
  at_text b v ps = record { place = nth ps (2 + length (spell_not b)); pattern = v }

  searched : (n v : List ℕ) (b : Bool) (ps : List At) → Has (spell_test (regexp n b v)) ps (at_text b v ps ∷ [])
  searched n v false [] more = refl
  searched n v false (p ∷ []) more = refl
  searched n v false (p ∷ q ∷ []) more = refl
  searched n v false (p ∷ q ∷ r ∷ ps) more = refl
  searched n v true [] more = refl
  searched n v true (p ∷ []) more = refl
  searched n v true (p ∷ q ∷ []) more = refl
  searched n v true (p ∷ q ∷ r ∷ []) more = refl
  searched n v true (p ∷ q ∷ r ∷ s ∷ ps) more = refl

  has_test : (t : Leaf) (ps : List At) → Has (spell_test t) ps (patterns_of (test_checks fields t ps))
  has_test (constant b) ps = has_plain (constant b) ps (refl, tt)
  has_test (is_null n b) ps = has_plain (is_null n b) ps (refl, (refl, other_both (spell_not b) _ (other_not b) (refl, tt)))
  has_test (compares n c op x d) ps =
      has_plain (compares n c op x d) ps (refl, other_both (spell_collate c) _ (other_collate c) (refl, (other_right x, other_collate d)))
  has_test (like n b v e) ps = has_plain (like n b v e) ps (refl, other_both (spell_not b) _ (other_not b) (refl, (refl, other_escape e)))
  has_test (glob n b v) ps = has_plain (glob n b v) ps (refl, other_both (spell_not b) _ (other_not b) (refl, (refl, tt)))
  has_test (regexp n b v) ps =
      subst (Has (spell_test (regexp n b v)) ps)
      (sym (patterns_both (sure (name_faults fields n (is_ill fields (regexp n b v)) (nth ps 0))) (Builds (at_text b v ps) ∷ [])
      ∙ ap (λ (qs : List PatternAt). qs ++ at_text b v ps ∷ []) (patterns_sure (name_faults fields n (is_ill fields (regexp n b v)) (nth ps 0)))))
      (searched n v b ps)
  has_test (one_of n c b ls l) ps =
      has_plain (one_of n c b ls l) ps
      (refl, other_both (spell_collate c) _ (other_collate c) (other_both (spell_not b) _ (other_not b) (refl, (refl, other_both (spell_before ls) _ (other_before ls) (other_literal l, (refl, tt))))))
  has_test (between n c b low high) ps =
      has_plain (between n c b low high) ps (refl, other_both (spell_collate c) _ (other_collate c) (other_both (spell_not b) _ (other_not b) (refl, (refl, (refl, (refl, tt))))))

  has_pair : (xs : List Sort) (s : Sort) (ys : List Sort) (ps : List At) (own others : List Check) → is_regexp s ≡ false
      → Has xs ps (patterns_of own) → Has ys (drop (suc (length xs)) ps) (patterns_of others) → Has (xs ++ s ∷ ys) ps (patterns_of (own ++ others))
  has_pair xs s ys ps own others so has next = subst (Has (xs ++ s ∷ ys) ps) (sym (patterns_both own others)) (has_next xs s ys ps (patterns_of own) (patterns_of others) so has next)

  has_closed : (xs : List Sort) (s : Sort) (ps : List At) (own : List PatternAt) → is_regexp s ≡ false → Has xs ps own → Has (xs ++ s ∷ []) ps own
  has_closed xs s ps own so has = subst (Has (xs ++ s ∷ []) ps) (append-nil own) (has_next xs s [] ps own [] so has (has_none [] (drop (suc (length xs)) ps) tt))

  mutual
    has_or : (o : Ors) (ps : List At) → Has (spell_or o) ps (patterns_of (or_checks fields o ps))
    has_or (last_and a) ps = has_and a ps
    has_or (and_or a o) ps = let behind = drop (suc (length (spell_and a))) ps in
        has_pair (spell_and a) (Word OR) (spell_or o) ps (and_checks fields a ps) (or_checks fields o behind) refl (has_and a ps) (has_or o behind)

    has_and : (a : Ands) (ps : List At) → Has (spell_and a) ps (patterns_of (and_checks fields a ps))
    has_and (last_not v) ps = has_not v ps
    has_and (not_and v a) ps = let behind = drop (suc (length (spell_nots v))) ps in
        has_pair (spell_nots v) (Word AND) (spell_and a) ps (not_checks fields v ps) (and_checks fields a behind) refl (has_not v ps) (has_and a behind)

    has_not : (n : Nots) (ps : List At) → Has (spell_nots n) ps (patterns_of (not_checks fields n ps))
    has_not (not_not n) ps = has_front (Word NOT) (spell_nots n) ps (patterns_of (not_checks fields n (drop 1 ps))) refl (has_not n (drop 1 ps))
    has_not (a_test t) ps = has_test t ps
    has_not (enclosed o) ps =
        has_front Opening (spell_or o ++ Closing ∷ []) ps (patterns_of (or_checks fields o (drop 1 ps))) refl
        (has_closed (spell_or o) Closing (drop 1 ps) (patterns_of (or_checks fields o (drop 1 ps))) refl (has_or o (drop 1 ps)))

has_end : (xs : List Sort) (ends : Bool) (ps : List At) (own : List PatternAt) → Has xs ps own → regexps_of false (xs ++ spell_end ends) ps ≡ own
has_end xs false ps own has = has [] ∙ append-nil own
has_end xs true ps own has = has (Semicolon ∷ []) ∙ append-nil own

head_drop : (ps : List At) → drop 1 (drop 1 (drop 1 (drop 1 (drop 1 ps)))) ≡ drop 5 ps
head_drop [] = refl
head_drop (a ∷ []) = refl
head_drop (a ∷ b ∷ []) = refl
head_drop (a ∷ b ∷ c ∷ []) = refl
head_drop (a ∷ b ∷ c ∷ d ∷ []) = refl
head_drop (a ∷ b ∷ c ∷ d ∷ e ∷ ps) = refl

-- of a query that tokens spell
pub regexps_are : (schema : Schema) (q : Query) (ts : List Token) → spell_query q ≡ sorts ts → regexps_from false ts ≡ patterns_of (query_checks schema q (places ts))
regexps_are schema q ts spelled =
    let ps = places ts in
    let own = or_checks schema.fields q.condition (drop 5 ps) in
    let table = code_at_if (not (is_named q.table schema.table)) 122 (nth ps 3) in
    apart false ts
    ∙ (ap (λ (ss : List Sort). regexps_of false ss ps) (sym spelled)
    ∙ (ap (regexps_of false (spell_or q.condition ++ spell_end q.ends)) (head_drop ps)
    ∙ (has_end (spell_or q.condition) q.ends (drop 5 ps) (patterns_of own) (has_or schema.fields q.condition (drop 5 ps))
    ∙ sym (patterns_both (sure table) own ∙ ap (λ (qs : List PatternAt). qs ++ patterns_of own) (patterns_sure table)))))
